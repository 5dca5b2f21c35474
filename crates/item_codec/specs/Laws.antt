-- The results of reading bytes are the items that the bytes spell.
use Rattle.std.specs.Prelude.{◌≡◌, ℕ, ◌+◌, ◌<◌, List, [], ◌∷◌, ◌++◌, length, map, All, Ok, Err}
use Rattle.std.specs.List.{flat_map}
use Rattle.kmn_base.specs.declared.units.UnitItem.{UnitItem}
use Rattle.kmn_base.specs.declared.units.BadUnits.{BadUnits}
use Rattle.kmn_base.specs.Spelling.{spelling, IsSpellable, unit_bytes, IsBadAt}
use Rattle.item_codec.specs.Walk.{results_from, results_of}

-- a spelled item is read again, whatever follows it
abbrev pub SpelledIsReadAgain : Type 0
SpelledIsReadAgain = (items : List UnitItem) (at : ℕ) (rest : List ℕ) → All IsSpellable items
    → results_from 0 at (unit_bytes (flat_map spelling items) ++ rest)
    ≡ map Ok items ++ results_from 0 (at + length (unit_bytes (flat_map spelling items))) rest

-- if bytes are only the spelling of items, the results are only these items
abbrev pub SpelledGivesItsItems : Type 0
SpelledGivesItsItems = (items : List UnitItem) → All IsSpellable items → results_of (unit_bytes (flat_map spelling items)) ≡ map Ok items

-- if bytes have a first position at which no item is spelled, the results are the items before it and then its fault
abbrev pub BadGivesItsFault : Type 0
BadGivesItsFault = (bytes : List ℕ) (bad : BadUnits) (is : IsBadAt bytes bad) → results_of bytes ≡ map Ok is.items ++ Err bad ∷ []

-- a fault among the results is at the first position at which no item is spelled
abbrev pub GivenFaultIsBad : Type 0
GivenFaultIsBad = (bytes : List ℕ) (items : List UnitItem) (bad : BadUnits) → All (λ byte. byte < 256) bytes
    → results_of bytes ≡ map Ok items ++ Err bad ∷ [] → IsBadAt bytes bad

-- if the results are only items, the bytes are the spelling of these items, so items have one spelling
abbrev pub ItemsHaveOneSpelling : Type 0
ItemsHaveOneSpelling = (bytes : List ℕ) (items : List UnitItem) → All (λ byte. byte < 256) bytes
    → results_of bytes ≡ map Ok items → All IsSpellable items × (bytes ≡ unit_bytes (flat_map spelling items))

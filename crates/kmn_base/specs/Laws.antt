-- The laws of the text before the caret: what putting, taking and reading again preserve. The laws of spelling: each item has one
-- spelling, and at each position there is exactly one of the end, an item, a fault.
use Rattle.std.specs.Prelude.{◌≡◌, ℕ, ◌^◌, ◌<◌, ◌≤◌, ◌⊎◌, List, [], ◌∷◌, ◌++◌, length, All, None}
use Rattle.kmn_base.specs.declared.items.Item.{Item}
use Rattle.kmn_base.specs.declared.items.Item.TheVariants.{Char, Mark}
use Rattle.kmn_base.specs.declared.units.UnitItem.{UnitItem}
use Rattle.kmn_base.specs.declared.units.BadUnits.{BadUnits}
use Rattle.kmn_base.specs.Lists.{characters, without_last, window, IsSound, put, read_again}
use Rattle.kmn_base.specs.Spelling.{spelling, IsSpellable, Spells, unit_bytes, BeginsWithItem, fault_at, IsBadAt, IsSpelledThrough}

-- after a put, each mark is in the window, whatever the list was before
abbrev pub PutIsSound : Type 0
PutIsSound = (items : List Item) (item : Item) → IsSound (put items item)

-- if the last items of a sound list are taken, the rest is sound
abbrev pub TakingKeepsSoundness : Type 0
TakingKeepsSoundness = (n : ℕ) (items : List Item) → IsSound items → IsSound (without_last n items)

-- the window after a put depends only on the window before it
abbrev pub WindowOfPut : Type 0
WindowOfPut = (items : List Item) (item : Item) → window (put items item) ≡ window (window items ++ item ∷ [])

-- a put character comes after the characters that were there before
abbrev pub CharactersOfPutChar : Type 0
CharactersOfPutChar = (items : List Item) (c : ℕ) → characters (put items (Char c)) ≡ characters items ++ c ∷ []

-- a put mark does not change the characters
abbrev pub CharactersOfPutMark : Type 0
CharactersOfPutMark = (items : List Item) (m : ℕ) → characters (put items (Mark m)) ≡ characters items

-- reading again depends only on the window of the old list and on the new text
abbrev pub ReadingAgainNeedsTheWindow : Type 0
ReadingAgainNeedsTheWindow = (a b : List Item) (text : List ℕ) → window a ≡ window b → read_again a text ≡ read_again b text

-- a list that was read again is sound, whatever the list was before
abbrev pub ReadingAgainIsSound : Type 0
ReadingAgainIsSound = (items : List Item) (text : List ℕ) → IsSound (read_again items text)

-- a list that was read again has the characters of the text
abbrev pub ReadingAgainGivesTheText : Type 0
ReadingAgainGivesTheText = (items : List Item) (text : List ℕ) → characters (read_again items text) ≡ text

-- reading a sound list's own text again does not change the list
abbrev pub ReadingAgainTheSameText : Type 0
ReadingAgainTheSameText = (items : List Item) → IsSound items → read_again items (characters items) ≡ items

-- no spelling is a prefix of another's, and no two items have one spelling
abbrev pub SpellingsArePrefixFree : Type 0
SpellingsArePrefixFree = (i j : UnitItem) (a b : List ℕ) → IsSpellable i → IsSpellable j → spelling i ++ a ≡ spelling j ++ b → i ≡ j

-- each spelling has one to five units
abbrev pub SpellingsAreShort : Type 0
SpellingsAreShort = (item : UnitItem) → (0 < length (spelling item)) × (length (spelling item) ≤ 5)

-- each unit of a spelling is one of 16 bits and not 0
abbrev pub SpellingsAreUnits : Type 0
SpellingsAreUnits = (item : UnitItem) → IsSpellable item → All (λ unit. (0 < unit) × (unit < 2 ^ 16)) (spelling item)

-- if an item is spelled, there is no fault, whatever follows
abbrev pub SpelledItemIsNoFault : Type 0
SpelledItemIsNoFault = (item : UnitItem) (rest : List ℕ) → IsSpellable item → fault_at (unit_bytes (spelling item) ++ rest) ≡ None

-- if there is no fault, the bytes end or an item is spelled
abbrev pub NoFaultIsEndOrItem : Type 0
NoFaultIsEndOrItem = (bytes : List ℕ) → All (λ byte. byte < 256) bytes → fault_at bytes ≡ None → (bytes ≡ []) ⊎ BeginsWithItem bytes

-- units are the spellings of at most one list of items
abbrev pub UnitsSpellOneList : Type 0
UnitsSpellOneList = (units : List ℕ) (items others : List UnitItem) → Spells units items → Spells units others → items ≡ others

-- there is at most one first position of bytes at which no item is spelled
abbrev pub FirstFaultIsOne : Type 0
FirstFaultIsOne = (bytes : List ℕ) (bad other : BadUnits) → IsBadAt bytes bad → IsBadAt bytes other → bad ≡ other

-- bytes are spelled to their end or have a first position at which no item is spelled
abbrev pub SpelledThroughOrBad : Type 0
SpelledThroughOrBad = (bytes : List ℕ) → All (λ byte. byte < 256) bytes → IsSpelledThrough bytes ⊎ ((bad : BadUnits) × IsBadAt bytes bad)

-- bytes that are spelled to their end have no position at which no item is spelled
abbrev pub SpelledThroughIsNotBad : Type 0
SpelledThroughIsNotBad = (bytes : List ℕ) (bad : BadUnits) → IsSpelledThrough bytes → IsBadAt bytes bad → ⊥

-- The results for bytes that are spelled, and for bytes that are not.
use Rattle.std.proofs.Common.{◌≡◌, ℕ, ◌+◌, ◌-◌, ◌<◌, Option, Some, None, List, [], ◌∷◌, ◌++◌, length, map, refl, sym, ◌∙◌, ap, subst, inl, inr, arith, append-nil, length-append}
use Rattle.std.specs.Prelude.{Result, Ok, Err}
use Rattle.std.specs.Option.{unwrap_or}
use Rattle.std.specs.List.{All, flat_map}
use Rattle.std.proofs.lemmas.List.Elements.{All-head, All-tail}
use Rattle.kmn_base.specs.declared.units.UnitItem.{UnitItem}
use Rattle.kmn_base.specs.declared.units.BadKind.{BadKind}
use Rattle.kmn_base.specs.declared.units.BadUnits.{BadUnits}
use Rattle.kmn_base.specs.Spelling.{spelling, IsSpellable, unit_bytes, whole_units, fault_at, IsBadAt}
use Rattle.kmn_base.proofs.UnitBytes.{unit_bytes-append}
use Rattle.kmn_base.proofs.Spelling.{spellings_are_short}
use Rattle.kmn_base.proofs.Faults.{spelled_item_is_no_fault}
use Rattle.kmn_base.proofs.FirstFaults.{spelled_through_or_bad, spelled-cons}
use Rattle.item_codec.specs.Laws.{SpelledIsReadAgain, SpelledGivesItsItems, BadGivesItsFault, GivenFaultIsBad, ItemsHaveOneSpelling}
use Rattle.kmn_base.specs.FirstItem.{first_item}
use Rattle.item_codec.specs.Walk.{spelled_size, results_at, results_from, items_given, results_of}
use Rattle.item_codec.proofs.FirstItems.{first_item-bytes, length-spelled}

abbrev pub Results : Type 0
Results = List (Result UnitItem BadUnits)

-- the bytes of the previous item are skipped
passed_over : (at : ℕ) (front rest : List ℕ) → results_from (length front) at (front ++ rest) ≡ results_from 0 (at + length front) rest
passed_over at [] rest = ap (λ n. results_from 0 n rest) (omega arith)
passed_over at (byte ∷ front) rest = passed_over (at + 1) front rest ∙ ap (λ n. results_from 0 n rest) (omega arith)

item_first : (item : UnitItem) (at : ℕ) (front rest : List ℕ) → length front ≡ spelled_size item → 0 < length front
    → fault_at (front ++ rest) ≡ None → first_item (whole_units (front ++ rest)) ≡ Some item
    → results_from 0 at (front ++ rest) ≡ Ok item ∷ results_from 0 (at + spelled_size item) rest
item_first item at [] rest size some no_fault is = absurd (omega arith)
item_first item at (byte ∷ front) rest size some no_fault is =
    let behind : ℕ → Results = λ passed. results_from passed (at + 1) (front ++ rest) in
    let others : behind (length front) ≡ results_from 0 (at + spelled_size item) rest
    = passed_over (at + 1) front rest ∙ ap (λ n. results_from 0 n rest) (omega arith) in
    ap (λ fault. results_at behind at fault (first_item (whole_units (byte ∷ front ++ rest)))) no_fault
    ∙ ap (results_at behind at None) is
    ∙ ap (λ passed. Ok item ∷ behind passed) (omega arith)
    ∙ ap (λ (results : Results). Ok item ∷ results) others

-- a spelled item is followed by the results of the bytes after it
item_then_rest : (item : UnitItem) (at : ℕ) (rest : List ℕ) → IsSpellable item
    → results_from 0 at (unit_bytes (spelling item) ++ rest) ≡ Ok item ∷ results_from 0 (at + spelled_size item) rest
item_then_rest item at rest h =
    let size : length (unit_bytes (spelling item)) ≡ spelled_size item = length-spelled item in
    item_first item at (unit_bytes (spelling item)) rest size (omega (arith, size, (spellings_are_short item).0))
    (spelled_item_is_no_fault item rest h) (first_item-bytes item rest h)

-- the same, with the size of the item computed from the rest
pub item_comes : (item : UnitItem) (at : ℕ) (bytes rest : List ℕ) → IsSpellable item → bytes ≡ unit_bytes (spelling item) ++ rest
    → results_from 0 at bytes ≡ Ok item ∷ results_from 0 (at + (length bytes - length rest)) rest
item_comes item at bytes rest h is =
    let size : length bytes ≡ spelled_size item + length rest
    = ap length is ∙ length-append (unit_bytes (spelling item)) rest ∙ ap (λ n. n + length rest) (length-spelled item) in
    ap (results_from 0 at) is ∙ item_then_rest item at rest h
    ∙ ap (λ n. Ok item ∷ results_from 0 (at + n) rest) (omega (arith, size))

-- after a fault there are no more results
pub fault_comes : (at : ℕ) (bytes : List ℕ) (kind : BadKind) (code : ℕ) → fault_at bytes ≡ Some (kind, code)
    → results_from 0 at bytes ≡ Err (record { kind = kind; at = at; code = code }) ∷ []
fault_comes at [] kind code is = absurd (cc)
fault_comes at (byte ∷ bytes) kind code is =
    ap (λ fault. results_at (λ passed. results_from passed (at + 1) bytes) at fault (first_item (whole_units (byte ∷ bytes)))) is

length-cons : (i : UnitItem) (items : List UnitItem)
    → length (unit_bytes (flat_map spelling (i ∷ items))) ≡ spelled_size i + length (unit_bytes (flat_map spelling items))
length-cons i items =
    ap length (unit_bytes-append (spelling i) (flat_map spelling items)) ∙ length-append (unit_bytes (spelling i)) (unit_bytes (flat_map spelling items))
    ∙ ap (λ n. n + length (unit_bytes (flat_map spelling items))) (length-spelled i)

pub spelled_is_read_again : SpelledIsReadAgain
spelled_is_read_again [] at rest h = ap (λ n. results_from 0 n rest) (omega arith)
spelled_is_read_again (i ∷ items) at rest h =
    let size : ℕ = length (unit_bytes (flat_map spelling items)) in
    let others = spelled_is_read_again items (at + spelled_size i) rest (All-tail IsSpellable i items h) in
    let place : at + spelled_size i + size ≡ at + length (unit_bytes (flat_map spelling (i ∷ items))) = omega (arith, length-cons i items) in
    ap (results_from 0 at) (spelled-cons i items rest)
    ∙ item_then_rest i at (unit_bytes (flat_map spelling items) ++ rest) (All-head IsSpellable i items h)
    ∙ ap (λ (results : Results). Ok i ∷ results) (others ∙ ap (λ n. map Ok items ++ results_from 0 n rest) place)

pub spelled_gives_its_items : SpelledGivesItsItems
unfolding results_of
spelled_gives_its_items items h =
    let bytes : List ℕ = unit_bytes (flat_map spelling items) in
    ap (results_from 0 0) (sym (append-nil bytes)) ∙ spelled_is_read_again items 0 [] h ∙ append-nil (map Ok items)

pub bad_gives_its_fault : BadGivesItsFault
unfolding results_of
bad_gives_its_fault bytes bad is =
    let place : 0 + length (unit_bytes (flat_map spelling is.items)) ≡ bad.at = omega (arith, is.place) in
    ap (results_from 0 0) is.parts ∙ spelled_is_read_again is.items 0 is.rest is.spellable
    ∙ ap (λ n. map Ok is.items ++ results_from 0 n is.rest) place
    ∙ ap (λ (results : Results). map Ok is.items ++ results) (fault_comes bad.at is.rest bad.kind bad.code is.fault)

-- the fault among the results, if there is one
abbrev fault_given : Results → Option BadUnits
fault_given [] = None
fault_given (Ok item ∷ results) = fault_given results
fault_given (Err bad ∷ results) = Some bad

items_given-map : (items : List UnitItem) → items_given (map Ok items) ≡ items
items_given-map [] = refl
items_given-map (i ∷ items) = ap (λ (is : List UnitItem). i ∷ is) (items_given-map items)

no_fault_given : (items : List UnitItem) → fault_given (map Ok items) ≡ None
no_fault_given [] = refl
no_fault_given (i ∷ items) = no_fault_given items

last_fault_given : (items : List UnitItem) (bad : BadUnits) → fault_given (map Ok items ++ Err bad ∷ []) ≡ Some bad
last_fault_given [] bad = refl
last_fault_given (i ∷ items) bad = last_fault_given items bad

-- spelled items are read as the same items
pub items_given_again : (items : List UnitItem) → All IsSpellable items → items_given (results_of (unit_bytes (flat_map spelling items))) ≡ items
items_given_again items h = ap items_given (spelled_gives_its_items items h) ∙ items_given-map items

pub items_have_one_spelling : ItemsHaveOneSpelling
items_have_one_spelling bytes items h gives = elim (spelled_through_or_bad bytes h) [
  | inl through ↦
      let same : through.items ≡ items
      = sym (items_given-map through.items)
      ∙ ap items_given (sym (spelled_gives_its_items through.items through.spellable) ∙ ap results_of (sym through.spelled) ∙ gives)
      ∙ items_given-map items in
      (subst (All IsSpellable) same through.spellable, through.spelled ∙ ap (λ is. unit_bytes (flat_map spelling is)) same)
  | inr (bad, is) ↦
      absurd (cc (ap fault_given (sym (bad_gives_its_fault bytes bad is) ∙ gives), last_fault_given is.items bad, no_fault_given items))
]

pub given_fault_is_bad : GivenFaultIsBad
given_fault_is_bad bytes items bad h gives = elim (spelled_through_or_bad bytes h) [
  | inl through ↦
      let none : map Ok through.items ≡ map Ok items ++ Err bad ∷ []
      = sym (spelled_gives_its_items through.items through.spellable) ∙ ap results_of (sym through.spelled) ∙ gives in
      absurd (cc (ap fault_given none, no_fault_given through.items, last_fault_given items bad))
  | inr (other, is) ↦
      let fault : ◌≡◌ {A = Option BadUnits} (Some other) (Some bad)
      = sym (last_fault_given is.items other) ∙ ap fault_given (sym (bad_gives_its_fault bytes other is) ∙ gives) ∙ last_fault_given items bad in
      subst (IsBadAt bytes) (ap (λ (o : Option BadUnits). unwrap_or o bad) fault) is
]

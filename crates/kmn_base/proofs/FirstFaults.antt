-- Bytes are spelled to their end in one way, or there is one first position at which no item is spelled.
use Rattle.std.proofs.Common.{◌≡◌, ℕ, zero, suc, ◌<◌, ◌≤◌, ◌⊎◌, Option, Some, None, List, [], ◌∷◌, ◌++◌, length, refl, sym, ◌∙◌, ap, subst, inl, inr, arith, append_assoc}
use Rattle.std.specs.Option.{unwrap_or}
use Rattle.std.specs.List.{All, AllByRecursion, flat_map}
use Rattle.std.proofs.lemmas.List.{append-nil, append_cancel_left}
use Rattle.std.proofs.lemmas.List.Elements.{All-nil, All-cons, All-same, All-drop, recursion_from_All}
use Rattle.std.proofs.lemmas.List.Prefix.{front_rest}
use Rattle.kmn_base.specs.declared.units.UnitItem.{UnitItem}
use Rattle.kmn_base.specs.declared.units.BadKind.{BadKind}
use Rattle.kmn_base.specs.declared.units.BadUnits.{BadUnits}
use Rattle.kmn_base.specs.Laws.{UnitsSpellOneList, FirstFaultIsOne, SpelledThroughOrBad, SpelledThroughIsNotBad}
use Rattle.kmn_base.specs.Spelling.{spelling, IsSpellable, unit_bytes, whole_units, fault_at, IsBadAt, IsSpelledThrough}
use Rattle.kmn_base.proofs.UnitBytes.{unit_bytes-append, whole_units-unit_bytes, length-unit_bytes}
use Rattle.kmn_base.proofs.Spelling.{spellings_are_prefix_free, spellings_are_short}
use Rattle.kmn_base.proofs.Faults.{spelled_item_is_no_fault}
use Rattle.kmn_base.proofs.StandingItems.{no_fault_is_end_or_item}

-- if two items are spelled at the beginning of the same bytes, they are equal
pub one_item_at_front : (i j : UnitItem) (a b : List ℕ) → IsSpellable i → IsSpellable j → unit_bytes (spelling i) ++ a ≡ unit_bytes (spelling j) ++ b → i ≡ j
one_item_at_front i j a b h k e =
    spellings_are_prefix_free i j (whole_units a) (whole_units b) h k
    (sym (whole_units-unit_bytes (spelling i) a) ∙ ap whole_units e ∙ whole_units-unit_bytes (spelling j) b)

-- no item is spelled at the beginning of the bytes
pub BeginsWithNone : List ℕ → Type 0
BeginsWithNone bytes = (item : UnitItem) (rest : List ℕ) → IsSpellable item → bytes ≡ unit_bytes (spelling item) ++ rest → ⊥

pub the_end_begins_with_none : BeginsWithNone []
unfolding BeginsWithNone
the_end_begins_with_none item rest h e = omega (arith, ap length e, length-unit_bytes (spelling item) rest, (spellings_are_short item).0)

pub a_fault_begins_with_none : (bytes : List ℕ) (fault : BadKind × ℕ) → fault_at bytes ≡ Some fault → BeginsWithNone bytes
unfolding BeginsWithNone
a_fault_begins_with_none bytes fault is item rest h e =
    let no_fault : fault_at bytes ≡ None = ap fault_at e ∙ spelled_item_is_no_fault item rest h in
    cc

-- the bytes of a list of items are the bytes of the first item, followed by the bytes of the others
pub spelled-cons : (i : UnitItem) (items : List UnitItem) (rest : List ℕ)
    → unit_bytes (flat_map spelling (i ∷ items)) ++ rest ≡ unit_bytes (spelling i) ++ (unit_bytes (flat_map spelling items) ++ rest)
spelled-cons i items rest = ap (λ bs. bs ++ rest) (unit_bytes-append (spelling i) (flat_map spelling items)) ∙ append_assoc (unit_bytes (spelling i)) (unit_bytes (flat_map spelling items)) rest

-- if the same bytes are read in two ways as far as they are spelled, the two ways are equal
pub read_one_way : (items others : List UnitItem) (a b : List ℕ) → AllByRecursion IsSpellable items → AllByRecursion IsSpellable others
    → unit_bytes (flat_map spelling items) ++ a ≡ unit_bytes (flat_map spelling others) ++ b → BeginsWithNone a → BeginsWithNone b → (items ≡ others) × (a ≡ b)
unfolding BeginsWithNone
read_one_way [] [] a b h k e no_a no_b = (refl, e)
read_one_way [] (j ∷ others) a b h k e no_a no_b = absurd (no_a j (unit_bytes (flat_map spelling others) ++ b) k.0 (e ∙ spelled-cons j others b))
read_one_way (i ∷ items) [] a b h k e no_a no_b = absurd (no_b i (unit_bytes (flat_map spelling items) ++ a) h.0 (sym e ∙ spelled-cons i items a))
read_one_way (i ∷ items) (j ∷ others) a b h k e no_a no_b =
    let parts : unit_bytes (spelling i) ++ (unit_bytes (flat_map spelling items) ++ a) ≡ unit_bytes (spelling j) ++ (unit_bytes (flat_map spelling others) ++ b)
    = sym (spelled-cons i items a) ∙ e ∙ spelled-cons j others b in
    let same : i ≡ j = one_item_at_front i j _ _ h.0 k.0 parts in
    let behind : unit_bytes (flat_map spelling items) ++ a ≡ unit_bytes (flat_map spelling others) ++ b
    = append_cancel_left (unit_bytes (spelling i)) _ _ (parts ∙ ap (λ item. unit_bytes (spelling item) ++ (unit_bytes (flat_map spelling others) ++ b)) (sym same)) in
    let others_same : (items ≡ others) × (a ≡ b) = read_one_way items others a b h.1 k.1 behind no_a no_b in
    (cc (same, others_same.0), others_same.1)

pub units_spell_one_list : UnitsSpellOneList
units_spell_one_list units items others h k =
    (read_one_way items others [] [] (recursion_from_All IsSpellable items h.spellable) (recursion_from_All IsSpellable others k.spellable)
    (ap (λ us. unit_bytes us ++ []) (sym h.spelled ∙ k.spelled)) the_end_begins_with_none the_end_begins_with_none).0

pub first_fault_is_one : FirstFaultIsOne
first_fault_is_one bytes bad other h k =
    let same : (h.items ≡ k.items) × (h.rest ≡ k.rest)
    = read_one_way h.items k.items h.rest k.rest (recursion_from_All IsSpellable h.items h.spellable) (recursion_from_All IsSpellable k.items k.spellable)
    (sym h.parts ∙ k.parts) (a_fault_begins_with_none h.rest _ h.fault) (a_fault_begins_with_none k.rest _ k.fault) in
    let place : bad.at ≡ other.at = h.place ∙ ap (λ items. length (unit_bytes (flat_map spelling items))) same.0 ∙ sym k.place in
    let fault : ◌≡◌ {A = Option (BadKind × ℕ)} (Some (bad.kind, bad.code)) (Some (other.kind, other.code)) = sym h.fault ∙ ap fault_at same.1 ∙ k.fault in
    let kind : bad.kind ≡ other.kind = ap (λ (o : Option (BadKind × ℕ)). (unwrap_or o (bad.kind, 0)).0) fault in
    let code : bad.code ≡ other.code = ap (λ (o : Option (BadKind × ℕ)). (unwrap_or o (bad.kind, 0)).1) fault in
    λ i. record { kind = kind i; at = place i; code = code i }

pub spelled_through_is_not_bad : SpelledThroughIsNotBad
spelled_through_is_not_bad bytes bad h k =
    let same : (h.items ≡ k.items) × ([] ≡ k.rest)
    = read_one_way h.items k.items [] k.rest (recursion_from_All IsSpellable h.items h.spellable) (recursion_from_All IsSpellable k.items k.spellable)
    (append-nil (unit_bytes (flat_map spelling h.items)) ∙ sym h.spelled ∙ k.parts) the_end_begins_with_none (a_fault_begins_with_none k.rest _ k.fault) in
    let ends : fault_at [] ≡ Some (bad.kind, bad.code) = ap fault_at same.1 ∙ k.fault in
    cc

-- if the rest after an item is spelled to the end or has a fault, the same is true with the item before it
spelled_behind : (item : UnitItem) (rest : List ℕ) → IsSpellable item → IsSpelledThrough rest → IsSpelledThrough (unit_bytes (spelling item) ++ rest)
spelled_behind item rest h through = record {
  items = item ∷ through.items;
  spellable = All-cons IsSpellable item through.items h through.spellable;
  spelled = ap (λ bs. unit_bytes (spelling item) ++ bs) through.spelled ∙ sym (unit_bytes-append (spelling item) (flat_map spelling through.items));
}

bad_behind : (item : UnitItem) (rest : List ℕ) → IsSpellable item → ((bad : BadUnits) × IsBadAt rest bad)
    → (bad : BadUnits) × IsBadAt (unit_bytes (spelling item) ++ rest) bad
bad_behind item rest h (bad, is) = (
  record { kind = bad.kind; at = length (unit_bytes (flat_map spelling (item ∷ is.items))); code = bad.code },
  record {
    items = item ∷ is.items;
    rest = is.rest;
    spellable = All-cons IsSpellable item is.items h is.spellable;
    parts = ap (λ bs. unit_bytes (spelling item) ++ bs) is.parts ∙ sym (spelled-cons item is.items is.rest);
    place = refl;
    fault = is.fault;
  },
)

-- whether bytes are spelled to their end or have a fault
Outcome : List ℕ → Type 0
Outcome bytes = IsSpelledThrough bytes ⊎ ((bad : BadUnits) × IsBadAt bytes bad)

behind : (item : UnitItem) (rest : List ℕ) → IsSpellable item → Outcome rest → Outcome (unit_bytes (spelling item) ++ rest)
unfolding Outcome
behind item rest h (inl through) = inl (spelled_behind item rest h through)
behind item rest h (inr bad) = inr (bad_behind item rest h bad)

bad_here : (bytes : List ℕ) (kind : BadKind) (code : ℕ) → fault_at bytes ≡ Some (kind, code) → Outcome bytes
unfolding Outcome
bad_here bytes kind code e = inr (
  record { kind = kind; at = 0; code = code },
  record {
    items = [];
    rest = bytes;
    spellable = All-nil IsSpellable;
    parts = refl;
    place = refl;
    fault = e;
  },
)

at_the_end : (bytes : List ℕ) → bytes ≡ [] → Outcome bytes
unfolding Outcome
at_the_end bytes e = inl (record { items = []; spellable = All-nil IsSpellable; spelled = e })

-- the rest after the first item is shorter
outcome_from : (bytes : List ℕ) (fault : Option (BadKind × ℕ)) → fault_at bytes ≡ fault → All (λ byte. byte < 256) bytes
    → ((rest : List ℕ) → length rest < length bytes → All (λ byte. byte < 256) rest → Outcome rest) → Outcome bytes
outcome_from bytes (Some (kind, code)) e h shorter = bad_here bytes kind code e
outcome_from bytes None e h shorter = elim (no_fault_is_end_or_item bytes h e) [
  | inl ended ↦ at_the_end bytes ended
  | inr found ↦
      let front : List ℕ = unit_bytes (spelling found.item) in
      let less : length found.rest < length bytes
      = omega (arith, ap length found.parts, length-unit_bytes (spelling found.item) found.rest, (spellings_are_short found.item).0) in
      let rest : All (λ byte. byte < 256) found.rest
      = All-same (λ byte. byte < 256) found.rest _ (sym (front_rest bytes front found.rest found.parts)) (All-drop (λ byte. byte < 256) (length front) bytes h) in
      subst Outcome (sym found.parts) (behind found.item found.rest found.spellable (shorter found.rest less rest))
]

outcome : (n : ℕ) (bytes : List ℕ) → length bytes ≤ n → All (λ byte. byte < 256) bytes → Outcome bytes
outcome zero bytes l h = outcome_from bytes (fault_at bytes) refl h (λ rest less k. absurd (omega arith))
outcome (suc n) bytes l h = outcome_from bytes (fault_at bytes) refl h (λ rest less k. outcome n rest (omega arith) k)

pub spelled_through_or_bad : SpelledThroughOrBad
unfolding Outcome
spelled_through_or_bad bytes h = outcome (length bytes) bytes (omega arith) h

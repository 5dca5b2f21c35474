-- What is found for a record covers it, so a certificate that states it is valid.
use mathlib.Core.Former.{none_left, list_count, this}
use denote.RawPtr.{null_ptr}
use Rattle.std.proofs.Common.{◌≡◌, ℕ, zero, suc, ◌+◌, ◌^◌, ◌≤◌, ◌<◌, Bool, true, ◌&&◌, Vec, Global, List, [], ◌∷◌, ◌++◌, length, Option, Some, None, refl, sym, ap, ◌∙◌, subst, arith, inl, inr, append_assoc}
use Rattle.std.specs.Prelude.{take, filter_map, slice_get, nat_lt, option_and_then, IfOk, IfSome, Result, Ok, Err}
use Rattle.std.specs.List.{position_from, cons_option}
use Rattle.std.specs.Option.{option_flatten}
use Rattle.std.proofs.lemmas.Bool.{cases_Bool, cond-true, cond-false}
use Rattle.std.proofs.lemmas.Bool.Decides.{nat_tests}
use Rattle.std.proofs.lemmas.Option.{same_Some}
use Rattle.kmn_base.specs.declared.limits.TheConstants.{STORE_ELEMENTS}
use Rattle.kmn_base.specs.declared.items.Item.{Item}
use Rattle.kmn_base.specs.declared.items.Element.{Element}
use Rattle.kmn_base.proofs.Elements.{length-cons_option}
use Rattle.rule_model.specs.declared.tables.Pat.{Pat}
use Rattle.rule_model.specs.declared.tables.Pat.TheVariants as pattern
use Rattle.rule_model.specs.declared.tables.Rule.{Rule}
use Rattle.rule_model.specs.declared.tables.Store.{Store}
use Rattle.rule_model.specs.declared.tables.Group.{Group}
use Rattle.rule_model.specs.declared.tables.Tables.{Tables}
use Rattle.rule_model.specs.Match.{item_of}
use Rattle.rule_model.specs.Tab.{elements_of, store_elements}
use Rattle.kmx_format.specs.Writable.{IsWritable, IsWritableStore}
use Rattle.rule_model.specs.Patterns.{is_matched}
use Rattle.rule_shadow.specs.declared.cert.Cert.{Cert, By, Split', Row_of-Cert, end_of-Cert, more_of-Cert}
use Rattle.rule_shadow.specs.declared.finding.Found.{Found}
use Rattle.rule_shadow.specs.declared.finding.Found.TheVariants as finding
use Rattle.rule_shadow.specs.Places.{Narrowing, is_fixed, items_of, patterns_of, places_from}
use Rattle.rule_shadow.specs.Covers.{covers_rule, covers_if_any, covers_by, split_items, items_at, narrowed, nothing_narrowed, covers_under, covers_parts, covers_record, covers_in, covers}
use Rattle.rule_shadow.specs.Finding.{least_by, least_then, least_onto, split_rules, split_or, first_split, by_or, found_for, found_if_any, found_in, found, AreBy, Tells, Says}
use Rattle.rule_shadow.proofs.Sound.{all_at}

-- the item at the first place, counted from some number on, passes
record Passes {X : Type 0} (p : X → Bool) (xs : List X) (from place : ℕ) : Type 0 where
  behind : ℕ
  x : X
  is : place ≡ from + behind
  at : slice_get xs behind ≡ Some x
  passes : p x ≡ true

first_passes : {X : Type 0} (p : X → Bool) (from : ℕ) (xs : List X) (place : ℕ) → position_from p from xs ≡ Some place → Passes p xs from place
first_passes p from [] place e = let absurd_case : None ≡ Some place = e in cc
first_passes p from (x ∷ xs) place e = elim (cases_Bool (p x)) [
  | inl yes_x ↦
      let same = same_Some from place (sym (cond-true (p x) (Some from) (position_from p (from + 1) xs) yes_x) ∙ e) in
      record { behind = 0; x = x; is = omega (arith, same); at = refl; passes = yes_x }
  | inr no_x ↦
      let rest = first_passes p (from + 1) xs place (sym (cond-false (p x) (Some from) (position_from p (from + 1) xs) no_x) ∙ e) in
      let more = rest.is in
      record { behind = suc rest.behind; x = rest.x; is = omega (arith, more); at = rest.at; passes = rest.passes }
]

-- an item at a place of the first `count` items is at the same place of the whole list
taken : {X : Type 0} (count place : ℕ) (xs : List X) (x : X) → slice_get (take count xs) place ≡ Some x → (place < count) × (slice_get xs place ≡ Some x)
taken zero place xs x e = let absurd_case : None ≡ Some x = e in cc
taken (suc count) place [] x e = let absurd_case : None ≡ Some x = e in cc
taken (suc count) zero (y ∷ xs) x e = (omega arith, e)
taken (suc count) (suc place) (y ∷ xs) x e = let rest = taken count place xs x e in let less = rest.0 in (omega (arith, less), rest.1)

module _ (tables : Tables) (group : Group) (number : ℕ) (r : Rule) where
  -- if a record is the least that covers a record, it covers the record
  pub least_covers : (narrowing : Narrowing) (q : ℕ) → least_by tables group number r narrowing ≡ Some q → covers_by tables group number r narrowing q ≡ true
  least_covers narrowing q e =
      let first = first_passes (λ q. covers_rule tables group.using_keys (places_from tables narrowing [] r.context) q r) 0 (take number group.rules) q e in
      let is = first.is in
      let here : first.behind ≡ q = omega (arith, is) in
      let within = taken number first.behind group.rules first.x first.at in
      let before = within.0 in
      let less : nat_lt q number ≡ true = grind (arith, nat_tests) in
      λ i. less i && (ap (covers_if_any tables group.using_keys (places_from tables narrowing [] r.context) r) (ap (slice_get group.rules) (sym here) ∙ within.1) ∙ first.passes) i

  -- each item has its least record
  abbrev pub AreLeast : ℕ → List Item → List ℕ → Type 0
  AreLeast place [] [] = Unit {0}
  AreLeast place [] (q ∷ qs) = ⊥
  AreLeast place (x ∷ xs) [] = ⊥
  AreLeast place (x ∷ xs) (q ∷ qs) = (least_by tables group number r (narrowed nothing_narrowed place x) ≡ Some q) × AreLeast place xs qs

  pub each_least : (place : ℕ) (items : List Item) (seen all : List ℕ) → least_onto tables group number r place items seen ≡ Some all → (qs : List ℕ) × (all ≡ seen ++ qs) × AreLeast place items qs
  each_least place [] seen all e = ([], sym (same_Some seen all e) ∙ sym (append_nil seen), tt)
    where
      append_nil : (xs : List ℕ) → xs ++ [] ≡ xs
      append_nil [] = refl
      append_nil (x ∷ xs) = ap (λ ys. x ∷ ys) (append_nil xs)
  each_least place (x ∷ xs) seen all e = by (least_by tables group number r (narrowed nothing_narrowed place x)) refl e (λ q. each_least place xs (seen ++ q ∷ []) all)
    where
      by : (o : Option ℕ) → least_by tables group number r (narrowed nothing_narrowed place x) ≡ o → least_then o (least_onto tables group number r place xs) seen ≡ Some all
          → ((q : ℕ) → least_onto tables group number r place xs (seen ++ q ∷ []) ≡ Some all → (qs : List ℕ) × (all ≡ (seen ++ q ∷ []) ++ qs) × AreLeast place xs qs)
          → (qs : List ℕ) × (all ≡ seen ++ qs) × AreLeast place (x ∷ xs) qs
      by None is h more = let absurd_case : None ≡ Some all = h in cc
      by (Some q) is h more = let rest = more q h in (q ∷ rest.0, rest.1 ∙ append_assoc seen (q ∷ []) rest.0, (is, rest.2))

  count_least : (place : ℕ) (items : List Item) (qs : List ℕ) → AreLeast place items qs → length qs ≡ length items
  count_least place [] [] h = refl
  count_least place [] (q ∷ qs) h = absurd h
  count_least place (x ∷ xs) [] h = absurd h
  count_least place (x ∷ xs) (q ∷ qs) h = ap suc (count_least place xs qs h.1)

  -- if a record splits, it splits at some place
  some_split : (place : ℕ) (context : List Pat) → (first_split tables group number r place context ≡ finding.NotFound → ⊥) → (k : ℕ) × (rules : List ℕ) × (split_rules tables group number r k ≡ Some rules)
  some_split place [] h = absurd (h refl)
  some_split place (p ∷ ps) h = elim (cases_Bool (is_matched p)) [
    | inl yes_p ↦ by (split_rules tables group number r place) refl (λ e. h (cond-true (is_matched p) (split_or (split_rules tables group number r place) place (first_split tables group number r (place + 1) ps)) (first_split tables group number r place ps) yes_p ∙ e)) (some_split (place + 1) ps)
    | inr no_p ↦ some_split place ps (λ e. h (cond-false (is_matched p) (split_or (split_rules tables group number r place) place (first_split tables group number r (place + 1) ps)) (first_split tables group number r place ps) no_p ∙ e))
  ]
    where
      by : (o : Option (List ℕ)) → split_rules tables group number r place ≡ o → (split_or o place (first_split tables group number r (place + 1) ps) ≡ finding.NotFound → ⊥)
          → ((first_split tables group number r (place + 1) ps ≡ finding.NotFound → ⊥) → (k : ℕ) × (rules : List ℕ) × (split_rules tables group number r k ≡ Some rules))
          → (k : ℕ) × (rules : List ℕ) × (split_rules tables group number r k ≡ Some rules)
      by None is h more = more h
      by (Some rules) is h more = (place, rules, is)

  pub with_items : (place : ℕ) (o : Option (List Item)) (rules : List ℕ) → option_and_then (λ items. least_onto tables group number r place items []) o ≡ Some rules
      → (items : List Item) × (o ≡ Some items) × (least_onto tables group number r place items [] ≡ Some rules)
  with_items place None rules e = let absurd_case : None ≡ Some rules = e in cc
  with_items place (Some items) rules e = (items, refl, e)

-- a certificate whose parts are `By` with these records (`cert_of`), with its shape and its row
abbrev units : List ℕ → List (Unit {0})
units [] = []
units (q ∷ qs) = tt ∷ units qs

count_units : (qs : List ℕ) → length qs ≡ length (units qs)
count_units [] = refl
count_units (q ∷ qs) = ap suc (count_units qs)

abbrev shape_of : (qs : List ℕ) → length qs < 2 ^ 63 → Vec (Unit {0}) Global
shape_of qs few = record { ptr = null_ptr; len = length qs; cap = length qs; alloc = record { memory = record { seal = tt } }; items = units qs; ok = (count_units qs, omega arith); small = few }

abbrev row_of : (qs : List ℕ) → Row_of-Cert (list_count (this {0}) (units qs) none_left)
row_of [] = end_of-Cert
row_of (q ∷ qs) = more_of-Cert (By q) (row_of qs)

abbrev cert_of : (place : ℕ) (qs : List ℕ) → length qs < 2 ^ 63 → Cert
cert_of place qs few = Split' place (shape_of qs few) (row_of qs)

row_tells : (qs : List ℕ) → AreBy qs (row_of qs)
row_tells [] = tt
row_tells (q ∷ qs) = (refl, row_tells qs)

-- if parts are `By` with the least records of the items, they cover each item
row_covers : (tables : Tables) (group : Group) (number : ℕ) (r : Rule) (place : ℕ) (items : List Item) (qs : List ℕ) {m : _} (parts : Row_of-Cert m)
    → AreLeast tables group number r place items qs → AreBy qs parts → covers_parts tables group number r nothing_narrowed place (Some items) parts ≡ true
row_covers tables group number r place [] [] end_of-Cert h told = refl
row_covers tables group number r place [] [] (more_of-Cert part parts) h told = absurd told
row_covers tables group number r place [] (q ∷ qs) parts h told = absurd h
row_covers tables group number r place (x ∷ items) [] parts h told = absurd h
row_covers tables group number r place (x ∷ items) (q ∷ qs) end_of-Cert h told = absurd told
row_covers tables group number r place (x ∷ items) (q ∷ qs) (more_of-Cert (Split' k shape inner) parts) h told = absurd told.0
row_covers tables group number r place (x ∷ items) (q ∷ qs) (more_of-Cert (By p) parts) h told =
    λ i. (ap (covers_by tables group number r (narrowed nothing_narrowed place x)) told.0 ∙ least_covers tables group number r (narrowed nothing_narrowed place x) q h.0) i
    && row_covers tables group number r place items qs parts h.1 told.1 i

split_covers : (tables : Tables) (group : Group) (number : ℕ) (r : Rule) (place : ℕ) (items : List Item) (qs : List ℕ) (few : length qs < 2 ^ 63)
    → items_at tables r nothing_narrowed place ≡ Some items → AreLeast tables group number r place items qs → covers_under tables group number r nothing_narrowed (cert_of place qs few) ≡ true
split_covers tables group number r place items qs few is h =
    ap (λ o. covers_parts tables group number r nothing_narrowed place o (row_of qs)) is ∙ row_covers tables group number r place items qs (row_of qs) h (row_tells qs)

-- a list has no more items than elements, so a store of writable tables has few items
fewer_items : (elements : List Element) → length (filter_map item_of elements) ≤ length elements
fewer_items [] = omega arith
fewer_items (e ∷ elements) =
    let more = length-cons_option (item_of e) (filter_map item_of elements) in
    let fewer = fewer_items elements in
    let whole : length (cons_option (item_of e) (filter_map item_of elements)) ≤ suc (length elements) = omega (arith, more, fewer) in
    whole

few_elements : (tables : Tables) (store : ℕ) (o : Option Store) → IsWritable tables → slice_get tables.stores store ≡ o → length (store_elements o) ≤ STORE_ELEMENTS
few_elements tables store None writable is = omega arith
few_elements tables store (Some s) writable is = (all_at IsWritableStore tables.stores store s writable.stores is).element_count

few_items : (tables : Tables) (o : Option Item) (p : Option Pat) (items : List Item) → IsWritable tables → split_items tables o p ≡ Some items → length items ≤ STORE_ELEMENTS
few_items tables None (Some (pattern.Any store)) items writable is = elim (cases_Bool (is_fixed tables store)) [
  | inl fixed ↦
      let all : items_of tables store ≡ items = same_Some (items_of tables store) items (sym (cond-true (is_fixed tables store) (Some (items_of tables store)) None fixed) ∙ is) in
      let fewer = fewer_items (elements_of tables.stores store) in
      let few = few_elements tables store (slice_get tables.stores store) writable refl in
      let bound : length (items_of tables store) ≤ STORE_ELEMENTS = omega (arith, fewer, few) in
      subst (λ (items : List Item). length items ≤ STORE_ELEMENTS) all bound
  | inr other ↦ let absurd_case : None ≡ Some items = sym (cond-false (is_fixed tables store) (Some (items_of tables store)) None other) ∙ is in cc
]
few_items tables o p items writable is = cc

-- if something is found for a record, the record has a certificate
found_covers_under : (tables : Tables) → IsWritable tables → (group : Group) (number : ℕ) (r : Rule) → (found_for tables group number r ≡ finding.NotFound → ⊥)
    → (cert : Cert) × (covers_under tables group number r nothing_narrowed cert ≡ true)
found_covers_under tables writable group number r found = by (least_by tables group number r nothing_narrowed) refl found
  where
    by : (o : Option ℕ) → least_by tables group number r nothing_narrowed ≡ o → (by_or o (first_split tables group number r 0 r.context) ≡ finding.NotFound → ⊥)
        → (cert : Cert) × (covers_under tables group number r nothing_narrowed cert ≡ true)
    by (Some q) is h = (By q, least_covers tables group number r nothing_narrowed q is)
    by None is h =
        let split = some_split tables group number r 0 r.context h in
        let k = split.0 in
        let items = with_items tables group number r k (items_at tables r nothing_narrowed k) split.1 split.2 in
        let least = each_least tables group number r k items.0 [] split.1 items.2 in
        let count = count_least tables group number r k items.0 least.0 least.2 in
        let few = few_items tables (option_flatten (slice_get nothing_narrowed k)) (slice_get (patterns_of r.context) k) items.0 writable items.1 in
        let short : length least.0 < 2 ^ 63 = omega (arith, count, few) in
        (cert_of k least.0 short, split_covers tables group number r k items.0 least.0 short items.1 least.2)

pub found_covers : (tables : Tables) → IsWritable tables → (n number : ℕ) (group : Group) (r : Rule) → slice_get tables.groups n ≡ Some group → slice_get group.rules number ≡ Some r
    → (found_for tables group number r ≡ finding.NotFound → ⊥) → (cert : Cert) × (covers tables n number cert ≡ true)
found_covers tables writable n number group r at here found =
    let under = found_covers_under tables writable group number r found in
    (under.0, ap (λ o. covers_in tables o number under.0) at ∙ (ap (λ o. covers_record tables group number o under.0) here ∙ under.1))

-- ---- a certificate that states what is found is valid

module _ (tables : Tables) (group : Group) (number : ℕ) (r : Rule) where
  abbrev IsRight : Cert → Type 0
  IsRight cert = covers_under tables group number r nothing_narrowed cert ≡ true

  split_tells : (place : ℕ) (context : List Pat) (cert : Cert) → Tells (first_split tables group number r place context) cert → IsRight cert
  split_tells place [] cert told = absurd told
  split_tells place (p ∷ ps) cert told = elim (cases_Bool (is_matched p)) [
    | inl yes_p ↦
        by (split_rules tables group number r place) refl cert
        (subst (λ (f : Found). Tells f cert) (cond-true (is_matched p) (split_or (split_rules tables group number r place) place (first_split tables group number r (place + 1) ps)) (first_split tables group number r place ps) yes_p) told)
        (split_tells (place + 1) ps cert)
    | inr no_p ↦
        split_tells place ps cert
        (subst (λ (f : Found). Tells f cert) (cond-false (is_matched p) (split_or (split_rules tables group number r place) place (first_split tables group number r (place + 1) ps)) (first_split tables group number r place ps) no_p) told)
  ]
    where
      by : (o : Option (List ℕ)) → split_rules tables group number r place ≡ o → (cert : Cert) → Tells (split_or o place (first_split tables group number r (place + 1) ps)) cert
          → (Tells (first_split tables group number r (place + 1) ps) cert → IsRight cert) → IsRight cert
      by None is cert told more = more told
      by (Some rules) is (By p) told more = absurd told
      by (Some rules) is (Split' k shape parts) told more =
          let items = with_items tables group number r place (items_at tables r nothing_narrowed place) rules is in
          let least = each_least tables group number r place items.0 [] rules items.2 in
          (λ i. covers_parts tables group number r nothing_narrowed (told.0 i) (items_at tables r nothing_narrowed (told.0 i)) parts)
          ∙ ap (λ o. covers_parts tables group number r nothing_narrowed place o parts) items.1
          ∙ row_covers tables group number r place items.0 least.0 parts least.2 (subst (λ (qs : List ℕ). AreBy qs parts) least.1 told.1)

  record_tells : (cert : Cert) → Tells (found_for tables group number r) cert → IsRight cert
  record_tells cert told = by (least_by tables group number r nothing_narrowed) refl cert told
    where
      by : (o : Option ℕ) → least_by tables group number r nothing_narrowed ≡ o → (cert : Cert) → Tells (by_or o (first_split tables group number r 0 r.context)) cert → IsRight cert
      by None is cert told = split_tells 0 r.context cert told
      by (Some q) is (By p) told = ap (covers_by tables group number r nothing_narrowed) told ∙ least_covers tables group number r nothing_narrowed q is
      by (Some q) is (Split' k shape parts) told = absurd told

pub tells_covers : (tables : Tables) (n number : ℕ) (cert : Cert) → Tells (found tables n number) cert → covers tables n number cert ≡ true
tells_covers tables n number cert told = in_group (slice_get tables.groups n) told
  where
    of_record : (group : Group) (o : Option Rule) → Tells (found_if_any tables group number o) cert → covers_record tables group number o cert ≡ true
    of_record group None told = absurd told
    of_record group (Some r) told = record_tells tables group number r cert told

    in_group : (o : Option Group) → Tells (found_in tables o number) cert → covers_in tables o number cert ≡ true
    in_group None told = absurd told
    in_group (Some group) told = of_record group (slice_get group.rules number) told

says_covers : (tables : Tables) (n number : ℕ) (cert : Option Cert) → Says (found tables n number) cert → IfSome cert (λ cert. covers tables n number cert ≡ true)
says_covers tables n number None told = tt
says_covers tables n number (Some cert) told = tells_covers tables n number cert told

pub answer_covers : {E : Type 0} (tables : Tables) (n number : ℕ) (what : Found) (answer : Result (Option Cert) E) → what ≡ found tables n number
    → IfOk answer (Says what) → IfOk answer (λ cert. IfSome cert (λ cert. covers tables n number cert ≡ true))
answer_covers tables n number what (Ok cert) is told = says_covers tables n number cert (subst (λ (f : Found). Says f cert) is told)
answer_covers tables n number what (Err error) is told = tt

-- A record with a certificate is never the first that holds.
use Rattle.std.proofs.Common.{◌≡◌, ◌≢◌, ℕ, zero, suc, ◌+◌, ◌-◌, ◌≤◌, ◌<◌, Bool, true, false, ◌||◌, List, [], ◌∷◌, ◌++◌, length, map, drop, Option, Some, None, refl, sym, ap, ◌∙◌, subst, arith, inl, inr, replicate, cond, if◌then◌else◌}
use Rattle.std.specs.Prelude.{is_some, nat_lt, slice_get, position, option_map}
use Rattle.std.specs.Option.{option_flatten}
use Rattle.std.specs.List.{list_any, All}
use Rattle.std.proofs.lemmas.Bool.{and_parts, cases_Bool, cond-true, cond-false}
use Rattle.std.proofs.lemmas.Bool.Decides.{nat_tests}
use Rattle.std.proofs.lemmas.Option.{same_Some, slice_get_cases, get_or_from_slice_get}
use Rattle.rule_model.specs.Keyboard.{Numbered}
use Rattle.kmn_base.specs.declared.limits.TheConstants.{CONTEXT_ITEMS}
use Rattle.kmn_base.specs.declared.items.Item.{Item}
use Rattle.kmn_base.specs.declared.items.Element.{Element}
use Rattle.kmn_base.specs.declared.keys.RuleKey.{RuleKey}
use Rattle.kmn_base.specs.declared.keys.RuleKey.TheVariants as key
use Rattle.kmn_base.specs.declared.keys.KeyPress.{KeyPress}
use Rattle.rule_model.specs.declared.event_state.Caught.{Caught}
use Rattle.rule_model.specs.declared.tables.Pat.{Pat}
use Rattle.rule_model.specs.declared.tables.Pat.TheVariants as pattern
use Rattle.rule_model.specs.declared.tables.Rule.{Rule}
use Rattle.rule_model.specs.declared.tables.Group.{Group}
use Rattle.rule_model.specs.declared.tables.Tables.{Tables}
use Rattle.rule_model.specs.Content.{content}
use Rattle.rule_model.specs.Match.{is_item, same_item, catches_from}
use Rattle.rule_model.specs.Hold.{holds}
use Rattle.rule_model.specs.Tab.{tab, tab_pattern, tab_rule, elements_of}
use Rattle.rule_model.proofs.PlainOptions.{position-passes, position-fails}
use Rattle.virtual_keys.proofs.NamePlaces.{some_place}
use Rattle.kmx_format.specs.Writable.{IsWritable, IsWritableRule, IsWritableGroup, IsWritableKey}
use Rattle.rule_shadow.specs.declared.cert.Cert.{Cert, By, Split', Row_of-Cert, end_of-Cert, more_of-Cert}
use Rattle.rule_shadow.specs.declared.cert.Place.{Place}
use Rattle.rule_model.specs.Patterns.{is_matched}
use Rattle.rule_shadow.specs.declared.cert.Range.{Range}
use Rattle.rule_shadow.specs.declared.cert.Range.TheVariants as range
use Rattle.rule_shadow.specs.Places.{Narrowing, is_fixed, items_of, patterns_of, first_given, range_of, places_from}
use Rattle.rule_shadow.specs.Covers.{covers_if_any, items_at, split_items, narrowed, nothing_narrowed, covers_under, covers_parts, covers_record, covers_in}
use Rattle.rule_shadow.specs.Laws.{CoveredNeverGoFirst, is_held}
use Rattle.rule_shadow.proofs.Ranges.{same_is, among_items, fixed_content, Agrees, AreAt, IsMet, caught_stand}
use Rattle.rule_shadow.proofs.Records.{taken_items, covering_holds, held_parts, length-patterns}

pub all_at : {X : Type 0} (P : X → Type 0) (xs : List X) (k : ℕ) (x : X) → All P xs → slice_get xs k ≡ Some x → P x
all_at P xs k x h e = elim (slice_get_cases xs k).1 [
  | inl c ↦ subst P (get_or_from_slice_get xs k x x e) (h k x c.1)
  | inr past ↦ let absurd_case : None ≡ Some x = sym past.1 ∙ e in cc
]

-- the contexts of writable tables have at most `CONTEXT_ITEMS` items
pub context_fits : (tables : Tables) (n number : ℕ) (group : Group) (r : Rule) → IsWritable tables → slice_get tables.groups n ≡ Some group → slice_get group.rules number ≡ Some r → length r.context ≤ CONTEXT_ITEMS
context_fits tables n number group r writable at here =
    let written = all_at (IsWritableGroup (length tables.stores) (length tables.groups)) tables.groups n group writable.groups at in
    let rule_written = all_at (IsWritableRule (length tables.stores) (length tables.groups) group.using_keys) group.rules number r written.rules here in
    rule_written.context.item_count

-- if a group of writable tables uses keys, each of its records has a key
pub has_key : (using_keys : Bool) (k : RuleKey) → IsWritableKey using_keys k → using_keys ≡ true → k ≢ key.Any
has_key true key.Any w e is = w
has_key true (key.Char c) w e is = cc
has_key true (key.Virtual flags code) w e is = cc
has_key false k w e is = let absurd_case : false ≡ true = e in cc

places-patterns : (tables : Tables) (narrowing : Narrowing) (rs : List Range) (context : List Pat) → map (λ (place : Place). place.pattern) (places_from tables narrowing rs context) ≡ patterns_of context
places-patterns tables narrowing rs [] = refl
places-patterns tables narrowing rs (p ∷ context) =
    at (is_matched p) (places-patterns tables (drop 1 narrowing) (rs ++ range_of tables rs (first_given narrowing) p ∷ []) context) (places-patterns tables narrowing (rs ++ range.Unknown ∷ []) context)
  where
    at : (b : Bool) → map (λ (place : Place). place.pattern) (places_from tables (drop 1 narrowing) (rs ++ range_of tables rs (first_given narrowing) p ∷ []) context) ≡ patterns_of context
        → map (λ (place : Place). place.pattern) (places_from tables narrowing (rs ++ range.Unknown ∷ []) context) ≡ patterns_of context
        → map (λ (place : Place). place.pattern) (if b then record { pattern = p; range = range_of tables rs (first_given narrowing) p } ∷ places_from tables (drop 1 narrowing) (rs ++ range_of tables rs (first_given narrowing) p ∷ []) context else places_from tables narrowing (rs ++ range.Unknown ∷ []) context)
        ≡ cond b (p ∷ patterns_of context) (patterns_of context)
    at true g h = ap (λ ps. p ∷ ps) g
    at false g h = h

module _ (tables : Tables) (group : Group) (values : List (List Element)) (left : List Item) (press : KeyPress) where
  -- some earlier record holds
  abbrev HeldBefore : ℕ → Type 0
  HeldBefore number = (by : ℕ) × (q : Rule) × (by < number) × (slice_get group.rules by ≡ Some q) × (is_held tables group values left press q ≡ true)

  module _ (number : ℕ) (r : Rule) (keyed : group.using_keys ≡ true → r.key ≢ key.Any) (caught : Caught)
      (e : holds (content (tab tables).stores values) left press (tab_rule tables.stores group.using_keys r) ≡ Some caught) where
    -- if an earlier record covers a record that holds, it holds too
    pub named_holds : (narrowing : Narrowing) (by : ℕ) (o : Option Rule) → slice_get group.rules by ≡ o → by < number
        → covers_if_any tables group.using_keys (places_from tables narrowing [] r.context) r o ≡ true → Agrees tables values narrowing (taken_items r left)
        → (q : Rule) × (by < number) × (slice_get group.rules by ≡ Some q) × (is_held tables group values left press q ≡ true)
    named_holds narrowing by None is less covered agrees = let absurd_case : false ≡ true = covered in cc
    named_holds narrowing by (Some q) is less covered agrees =
        (q, less, is, covering_holds tables values left press group.using_keys narrowing q r caught keyed covered agrees e)

    -- if the pattern at a place is an `any`, the item at the place matches it
    at_pattern : (places : List Place) (text : List Item) (k : ℕ) (p : Pat) → AreAt tables values places text → slice_get (map (λ (place : Place). place.pattern) places) k ≡ Some p
        → (x : Item) × (slice_get text k ≡ Some x) × IsMet tables values p x
    at_pattern [] text k p h is = let absurd_case : None ≡ Some p = is in cc
    at_pattern (place ∷ places) [] k p h is = absurd h
    at_pattern (place ∷ places) (x ∷ text) zero p h is = (x, refl, subst (λ (q : Pat). IsMet tables values q x) (same_Some place.pattern p is) h.1)
    at_pattern (place ∷ places) (x ∷ text) (suc k) p h is = at_pattern places text k p h.2 is

    pub narrowed_agrees : (narrowing : Narrowing) (text : List Item) (k : ℕ) (x y : Item) → Agrees tables values narrowing text → slice_get text k ≡ Some x → x ≡ y → Agrees tables values (narrowed narrowing k y) text
    narrowed_agrees [] text k x y h at same = tt
    narrowed_agrees (given ∷ narrowing) [] zero x y h at same = tt
    narrowed_agrees (given ∷ narrowing) [] (suc k) x y h at same = tt
    narrowed_agrees (given ∷ narrowing) (z ∷ text) zero x y h at same = (same_Some z x at ∙ same, h.1)
    narrowed_agrees (given ∷ narrowing) (z ∷ text) (suc k) x y h at same = (h.0, narrowed_agrees narrowing text k x y h.1 at same)

    -- if a certificate splits at a place, the item at the place is one of the items that it splits by
    pub split_item : (narrowing : Narrowing) (k : ℕ) (o : Option Item) (p : Option Pat) (items : List Item) → split_items tables o p ≡ Some items → slice_get (patterns_of r.context) k ≡ p
        → Agrees tables values narrowing (taken_items r left) → (x : Item) × (slice_get (taken_items r left) k ≡ Some x) × (list_any (same_item x) items ≡ true)
    split_item narrowing k None (Some (pattern.Any store)) items is at agrees =
        let held = held_parts tables values left press group.using_keys r caught e in
        let text = taken_items r left in
        let caught_text = ap (λ n. catches_from (content (tab tables).stores values) [] (map (tab_pattern tables.stores) r.context) (drop (length left - n) left)) (sym (length-patterns tables.stores r.context)) ∙ held.caught in
        let stand = caught_stand tables values r.context narrowing [] [] text held.catches tt agrees caught_text in
        let places = places_from tables narrowing [] r.context in
        let one = at_pattern places text k (pattern.Any store) stand (ap (λ ps. slice_get ps k) (places-patterns tables narrowing [] r.context) ∙ at) in
        let found : list_any (is_item one.0) (content (tab tables).stores values (Numbered store)) ≡ true = sym (some_place (is_item one.0) (content (tab tables).stores values (Numbered store))) ∙ one.2 in
        elim (cases_Bool (is_fixed tables store)) [
          | inl fixed ↦
              let all : items_of tables store ≡ items = same_Some (items_of tables store) items (sym (cond-true (is_fixed tables store) (Some (items_of tables store)) None fixed) ∙ is) in
              (one.0, one.1, ap (list_any (same_item one.0)) (sym all) ∙ among_items one.0 (elements_of tables.stores store) (ap (list_any (is_item one.0)) (sym (fixed_content tables store values fixed)) ∙ found))
          | inr other ↦ let absurd_case : None ≡ Some items = sym (cond-false (is_fixed tables store) (Some (items_of tables store)) None other) ∙ is in cc
        ]
    split_item narrowing k o p items is at agrees = cc

    -- if a certificate that splits is valid, it has items to split by
    has_items : {m : _} (narrowing : Narrowing) (k : ℕ) (o : Option (List Item)) (parts : Row_of-Cert m) → covers_parts tables group number r narrowing k o parts ≡ true → (items : List Item) × (o ≡ Some items)
    has_items narrowing k None parts covered = let absurd_case : false ≡ true = covered in cc
    has_items narrowing k (Some items) parts covered = (items, refl)

    mutual
      cert_sound : (cert : Cert) (narrowing : Narrowing) → covers_under tables group number r narrowing cert ≡ true → Agrees tables values narrowing (taken_items r left) → HeldBefore number
      cert_sound (By by) narrowing covered agrees =
          let parts = and_parts (nat_lt by number) _ covered in
          let one = named_holds narrowing by (slice_get group.rules by) refl (grind (arith, nat_tests)) parts.1 agrees in
          (by, one.0, one.1, one.2, one.3)
      cert_sound (Split' k shape parts) narrowing covered agrees =
          let some = has_items narrowing k (items_at tables r narrowing k) parts covered in
          let one = split_item narrowing k (option_flatten (slice_get narrowing k)) (slice_get (patterns_of r.context) k) some.0 some.1 refl agrees in
          row_sound parts narrowing k one.0 some.0 one.1 one.2 (ap (λ o. covers_parts tables group number r narrowing k o parts) (sym some.1) ∙ covered) agrees

      row_sound : {m : _} (parts : Row_of-Cert m) (narrowing : Narrowing) (k : ℕ) (x : Item) (items : List Item) → slice_get (taken_items r left) k ≡ Some x → list_any (same_item x) items ≡ true
          → covers_parts tables group number r narrowing k (Some items) parts ≡ true → Agrees tables values narrowing (taken_items r left) → HeldBefore number
      row_sound end_of-Cert narrowing k x [] at among covered agrees = let absurd_case : false ≡ true = among in cc
      row_sound end_of-Cert narrowing k x (y ∷ items) at among covered agrees = let absurd_case : false ≡ true = covered in cc
      row_sound (more_of-Cert part parts) narrowing k x [] at among covered agrees = let absurd_case : false ≡ true = covered in cc
      row_sound (more_of-Cert part parts) narrowing k x (y ∷ items) at among covered agrees =
          let both = and_parts (covers_under tables group number r (narrowed narrowing k y) part) _ covered in
          elim (cases_Bool (same_item x y)) [
            | inl same ↦ cert_sound part (narrowed narrowing k y) both.0 (narrowed_agrees narrowing (taken_items r left) k x y agrees at (same_is x y same))
            | inr other ↦ row_sound parts narrowing k x items at (sym (ap (λ b. b || list_any (same_item x) items) other) ∙ among) both.1 agrees
          ]

pub nothing_agrees : (tables : Tables) (values : List (List Element)) (n : ℕ) (text : List Item) → Agrees tables values (replicate n None) text
nothing_agrees tables values zero text = tt
nothing_agrees tables values (suc n) [] = tt
nothing_agrees tables values (suc n) (x ∷ text) = (tt, nothing_agrees tables values n text)

moved : (o : Option ℕ) (n : ℕ) → option_map (λ i. 1 + i) o ≡ Some (suc n) → o ≡ Some n
moved None n e = let absurd_case : None ≡ Some (suc n) = e in cc
moved (Some m) n e = let h = same_Some (1 + m) (suc n) e in let same : m ≡ n = omega (arith, h) in ap Some same

not_first : (o : Option ℕ) → option_map (λ i. 1 + i) o ≢ Some 0
not_first None e = cc
not_first (Some m) e = let h = same_Some (1 + m) 0 e in absurd (omega (arith, h))

-- if `position` returns a place, the item there passes
first_is : {X : Type 0} (p : X → Bool) (xs : List X) (n : ℕ) → position p xs ≡ Some n → (x : X) × (slice_get xs n ≡ Some x) × (p x ≡ true)
first_is p [] n e = let absurd_case : None ≡ Some n = e in cc
first_is p (x ∷ xs) zero e = elim (cases_Bool (p x)) [
  | inl yes_x ↦ (x, refl, yes_x)
  | inr no_x ↦ absurd (not_first (position p xs) (sym (position-fails p x xs no_x) ∙ e))
]
first_is p (x ∷ xs) (suc n) e = elim (cases_Bool (p x)) [
  | inl yes_x ↦ let h = same_Some 0 (suc n) (sym (position-passes p x xs yes_x) ∙ e) in absurd (omega (arith, h))
  | inr no_x ↦ first_is p xs n (moved (position p xs) n (sym (position-fails p x xs no_x) ∙ e))
]

-- no item before the place that `position` returns passes
none_before : {X : Type 0} (p : X → Bool) (xs : List X) (n k : ℕ) (y : X) → position p xs ≡ Some n → k < n → slice_get xs k ≡ Some y → p y ≡ true → ⊥
none_before p [] n k y e less at passes = let absurd_case : None ≡ Some n = e in cc
none_before p (x ∷ xs) zero k y e less at passes = absurd (omega (arith, less))
none_before p (x ∷ xs) (suc n) zero y e less at passes =
    let h = same_Some 0 (suc n) (sym (position-passes p x xs (ap p (same_Some x y at) ∙ passes)) ∙ e) in omega (arith, h)
none_before p (x ∷ xs) (suc n) (suc k) y e less at passes = elim (cases_Bool (p x)) [
  | inl yes_x ↦ let h = same_Some 0 (suc n) (sym (position-passes p x xs yes_x) ∙ e) in omega (arith, h)
  | inr no_x ↦ none_before p xs n k y (moved (position p xs) n (sym (position-fails p x xs no_x) ∙ e)) (omega (arith, less)) at passes
]

pub some_caught : (o : Option Caught) → is_some o ≡ true → (c : Caught) × (o ≡ Some c)
some_caught None e = let absurd_case : false ≡ true = e in cc
some_caught (Some c) e = (c, refl)

pub covered_never_go_first : CoveredNeverGoFirst
covered_never_go_first tables n number group cert writable at covered values left press first =
    let p = is_held tables group values left press in
    let here = first_is p group.rules number first in
    let r : Rule = here.0 in
    let caught = some_caught (holds (content (tab tables).stores values) left press (tab_rule tables.stores group.using_keys r)) here.2 in
    let written = all_at (IsWritableGroup (length tables.stores) (length tables.groups)) tables.groups n group writable.groups at in
    let rule_written = all_at (IsWritableRule (length tables.stores) (length tables.groups) group.using_keys) group.rules number r written.rules here.1 in
    let under : covers_under tables group number r nothing_narrowed cert ≡ true =
    ap (λ o. covers_record tables group number o cert) (sym here.1) ∙ (ap (λ o. covers_in tables o number cert) (sym at) ∙ covered) in
    let before = cert_sound tables group values left press number r (has_key group.using_keys r.key rule_written.key) caught.0 caught.1 cert nothing_narrowed under (nothing_agrees tables values CONTEXT_ITEMS (taken_items r left)) in
    none_before p group.rules number before.0 before.1 first before.2 before.3 before.4

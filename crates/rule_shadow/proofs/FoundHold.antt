-- If a record holds for which something is found, one of the records found for it holds before it.
use Rattle.std.proofs.Common.{◌≡◌, ◌≢◌, ℕ, suc, ◌+◌, ◌<◌, true, false, ◌||◌, List, [], ◌∷◌, length, Option, Some, None, refl, sym, ap, ◌∙◌, subst, arith, inl, inr}
use Rattle.std.specs.Prelude.{nat_lt, slice_get}
use Rattle.std.specs.Option.{option_flatten}
use Rattle.std.specs.List.{list_any}
use Rattle.std.proofs.lemmas.Bool.{and_parts, cases_Bool, cond-true, cond-false}
use Rattle.std.proofs.lemmas.Bool.Decides.{nat_tests}
use Rattle.kmn_base.specs.declared.limits.TheConstants.{CONTEXT_ITEMS}
use Rattle.kmn_base.specs.declared.items.Item.{Item}
use Rattle.kmn_base.specs.declared.items.Element.{Element}
use Rattle.kmn_base.specs.declared.keys.RuleKey.TheVariants as key
use Rattle.kmn_base.specs.declared.keys.KeyPress.{KeyPress}
use Rattle.rule_model.specs.declared.event_state.Caught.{Caught}
use Rattle.rule_model.specs.declared.tables.Pat.{Pat}
use Rattle.rule_model.specs.declared.tables.Rule.{Rule}
use Rattle.rule_model.specs.declared.tables.Group.{Group}
use Rattle.rule_model.specs.declared.tables.Tables.{Tables}
use Rattle.rule_model.specs.Content.{content}
use Rattle.rule_model.specs.Match.{same_item}
use Rattle.rule_model.specs.Hold.{holds}
use Rattle.rule_model.specs.Tab.{tab, tab_rule}
use Rattle.kmx_format.specs.Writable.{IsWritableRule, IsWritableGroup}
use Rattle.rule_model.specs.Patterns.{is_matched}
use Rattle.rule_shadow.specs.declared.finding.Found.{Found}
use Rattle.rule_shadow.specs.declared.finding.Found.TheVariants as finding
use Rattle.rule_shadow.specs.Places.{Narrowing, patterns_of, places_from}
use Rattle.rule_shadow.specs.Covers.{covers_if_any, items_at, narrowed, nothing_narrowed}
use Rattle.rule_shadow.specs.Finding.{least_by, split_rules, split_or, first_split, by_or, found_for, found_if_any, found_in, found}
use Rattle.rule_shadow.specs.Laws.{Names, FoundHoldBefore, is_held}
use Rattle.rule_shadow.proofs.Ranges.{same_is, Agrees}
use Rattle.rule_shadow.proofs.Records.{taken_items}
use Rattle.rule_shadow.proofs.Sound.{all_at, has_key, named_holds, split_item, narrowed_agrees, nothing_agrees, some_caught}
use Rattle.rule_shadow.proofs.FoundCovers.{AreLeast, least_covers, each_least, with_items}

module _ (tables : Tables) (group : Group) (values : List (List Element)) (left : List Item) (press : KeyPress) (number : ℕ) (r : Rule) (keyed : group.using_keys ≡ true → r.key ≢ key.Any) (caught : Caught)
    (e : holds (content (tab tables).stores values) left press (tab_rule tables.stores group.using_keys r) ≡ Some caught) where
  -- an earlier record holds
  record HoldsBefore (place : ℕ) : Type 0 where
    rule : Rule
    less : place < number
    there : slice_get group.rules place ≡ Some rule
    held : is_held tables group values left press rule ≡ true

  -- one of the records that were found holds before, and (`OneBefore`) one of a list does
  record NamedBefore (what : Found) : Type 0 where
    place : ℕ
    named : Names what place
    before : HoldsBefore place

  record OneBefore (qs : List ℕ) : Type 0 where
    index : ℕ
    place : ℕ
    there : slice_get qs index ≡ Some place
    before : HoldsBefore place

  least_holds : (narrowing : Narrowing) (by : ℕ) → least_by tables group number r narrowing ≡ Some by → Agrees tables values narrowing (taken_items r left) → HoldsBefore by
  least_holds narrowing by is agrees =
      let parts = and_parts (nat_lt by number) (covers_if_any tables group.using_keys (places_from tables narrowing [] r.context) r (slice_get group.rules by)) (least_covers tables group number r narrowing by is) in
      let first = parts.0 in
      let less : by < number = grind (arith, nat_tests) in
      let one = named_holds tables group values left press number r keyed caught e narrowing by (slice_get group.rules by) refl less parts.1 agrees in
      record { rule = one.0; less = one.1; there = one.2; held = one.3 }

  one_behind : (q : ℕ) (qs : List ℕ) → OneBefore qs → OneBefore (q ∷ qs)
  one_behind q qs one = record { index = suc one.index; place = one.place; there = one.there; before = one.before }

  -- if the item at a place is one that a record splits by, its least record holds before
  one_holds : (place : ℕ) (x : Item) (items : List Item) (qs : List ℕ) → slice_get (taken_items r left) place ≡ Some x → list_any (same_item x) items ≡ true
      → AreLeast tables group number r place items qs → OneBefore qs
  one_holds place x [] [] at among least = let absurd_case : false ≡ true = among in cc
  one_holds place x [] (q ∷ qs) at among least = absurd least
  one_holds place x (y ∷ items) [] at among least = absurd least
  one_holds place x (y ∷ items) (q ∷ qs) at among least = elim (cases_Bool (same_item x y)) [
    | inl same ↦
        let agrees = narrowed_agrees tables group values left press number r keyed caught e nothing_narrowed (taken_items r left) place x y (nothing_agrees tables values CONTEXT_ITEMS (taken_items r left)) at (same_is x y same) in
        record { index = 0; place = q; there = refl; before = least_holds (narrowed nothing_narrowed place y) q least.0 agrees }
    | inr other ↦ one_behind q qs (one_holds place x items qs at (sym (ap (λ b. b || list_any (same_item x) items) other) ∙ among) least.1)
  ]

  split_holds : (place : ℕ) (context : List Pat) → first_split tables group number r place context ≢ finding.NotFound → NamedBefore (first_split tables group number r place context)
  split_holds place [] some = absurd (some refl)
  split_holds place (p ∷ ps) some = elim (cases_Bool (is_matched p)) [
    | inl yes_p ↦
        let is = cond-true (is_matched p) (split_or (split_rules tables group number r place) place (first_split tables group number r (place + 1) ps)) (first_split tables group number r place ps) yes_p in
        subst NamedBefore (sym is) (by (split_rules tables group number r place) refl (λ none. some (is ∙ none)) (split_holds (place + 1) ps))
    | inr no_p ↦
        let is = cond-false (is_matched p) (split_or (split_rules tables group number r place) place (first_split tables group number r (place + 1) ps)) (first_split tables group number r place ps) no_p in
        subst NamedBefore (sym is) (split_holds place ps (λ none. some (is ∙ none)))
  ]
    where
      by : (o : Option (List ℕ)) → split_rules tables group number r place ≡ o → split_or o place (first_split tables group number r (place + 1) ps) ≢ finding.NotFound
          → (first_split tables group number r (place + 1) ps ≢ finding.NotFound → NamedBefore (first_split tables group number r (place + 1) ps))
          → NamedBefore (split_or o place (first_split tables group number r (place + 1) ps))
      by None is some more = more some
      by (Some rules) is some more =
          let items = with_items tables group number r place (items_at tables r nothing_narrowed place) rules is in
          let least = each_least tables group number r place items.0 [] rules items.2 in
          let item = split_item tables group values left press number r keyed caught e nothing_narrowed place (option_flatten (slice_get nothing_narrowed place)) (slice_get (patterns_of r.context) place) items.0
          items.1 refl (nothing_agrees tables values CONTEXT_ITEMS (taken_items r left)) in
          let one = one_holds place item.0 items.0 least.0 item.1 item.2 least.2 in
          record { place = one.place; named = (one.index, ap (λ (qs : List ℕ). slice_get qs one.index) least.1 ∙ one.there); before = one.before }

  record_holds : found_for tables group number r ≢ finding.NotFound → NamedBefore (found_for tables group number r)
  record_holds some = by (least_by tables group number r nothing_narrowed) refl some
    where
      by : (o : Option ℕ) → least_by tables group number r nothing_narrowed ≡ o → by_or o (first_split tables group number r 0 r.context) ≢ finding.NotFound
          → NamedBefore (by_or o (first_split tables group number r 0 r.context))
      by None is some = split_holds 0 r.context some
      by (Some q) is some = record { place = q; named = refl; before = least_holds nothing_narrowed q is (nothing_agrees tables values CONTEXT_ITEMS (taken_items r left)) }

pub found_hold_before : FoundHoldBefore
found_hold_before tables n number group r writable at here some values left press held =
    let written = all_at (IsWritableGroup (length tables.stores) (length tables.groups)) tables.groups n group writable.groups at in
    let rule_written = all_at (IsWritableRule (length tables.stores) (length tables.groups) group.using_keys) group.rules number r written.rules here in
    let caught = some_caught (holds (content (tab tables).stores values) left press (tab_rule tables.stores group.using_keys r)) held in
    let is : found tables n number ≡ found_for tables group number r = ap (λ o. found_in tables o number) at ∙ ap (found_if_any tables group number) here in
    let one = record_holds tables group values left press number r (has_key group.using_keys r.key rule_written.key) caught.0 caught.1 (λ none. some (is ∙ none)) in
    let q = one.before in
    (one.place, q.rule, q.less, q.there, subst (λ (what : Found). Names what one.place) (sym is) one.named, q.held)

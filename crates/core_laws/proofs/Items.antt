-- The items of outputs of which nothing is reported.
use Rattle.std.specs.Prelude.{◌≡◌, ℕ, zero, suc, ◌+◌, ◌-◌, ◌<◌, ◌≤◌, Bool, true, false, not, ◌&&◌, ◌||◌, nat_eq, cond, if◌then◌else◌, List, [], ◌∷◌, ◌++◌, length, take, flat_map, count_by, slice_get, Option, Some, None, IsSomeAnd, sum_by}
use Rattle.std.specs.Option.{option_map_or}
use Rattle.std.specs.List.{All, list_any}
use Rattle.std.proofs.Common.{refl, sym, ap, ◌∙◌, arith, inl, inr}
use Rattle.std.proofs.Math.Path.{subst}
use Rattle.std.proofs.lemmas.Bool.{or_parts}
use Rattle.std.proofs.lemmas.Bool.Decides.{nat_tests}
use Rattle.std.proofs.lemmas.List.Elements.{All-head, All-tail, All-drop}
use Rattle.std.proofs.lemmas.List.Sums.{sum_by-cons, count_by-le-length}
use Rattle.std.proofs.lemmas.Option.{none-some, same_Some}
use Rattle.kmn_base.specs.declared.items.Item.{Item}
use Rattle.kmn_base.specs.Lists.{is_mark}
use Rattle.kmn_base.specs.Rising.{is_among, rising}
use Rattle.rule_model.specs.declared.event_state.Catch.{Catch}
use Rattle.rule_model.specs.declared.event_state.Caught.{Caught}
use Rattle.rule_model.specs.declared.tables.Pat.{Pat}
use Rattle.rule_model.specs.declared.tables.Pat.TheVariants as pattern
use Rattle.rule_model.specs.declared.tables.Out.{Out}
use Rattle.rule_model.specs.declared.tables.Out.TheVariants as output
use Rattle.rule_model.specs.declared.tables.Store.{Store}
use Rattle.rule_model.specs.declared.tables.Tables.{Tables}
use Rattle.rule_model.specs.Keyboard.{StoreMeaning}
use Rattle.rule_model.specs.Match.{place_caught}
use Rattle.rule_model.specs.Enter.{nothing}
use Rattle.rule_model.specs.Patterns.{is_condition, is_matched, is_nul}
use Rattle.rule_model.specs.Tab.{elements_of, tab_options}
use Rattle.kmx_format.specs.Writable.{is_any, needs_context, stores_of_output, PointsInto}
use Rattle.core_meaning.specs.Events.{CoreVersion, is_18, LastMatch, last_items, weight, units}
use Rattle.core_meaning.specs.Contexts.{Tried, begins_with_nul, compared_count}
use Rattle.core_meaning.specs.Options.{is_named, name_at, saved_under, last_option_named}
use Rattle.core_meaning.specs.Outputs.{skipped_count}
use Rattle.core_constructs.specs.declared.facts.Facts.{Facts}
use Rattle.core_constructs.specs.Contexts.{counts_differently, has_late_nul, has_offset, is_moved_output, is_unmatched, puts_by_offset, unmatched_before}
use Rattle.core_constructs.specs.Contexts as told
use Rattle.core_constructs.specs.Marks.{item_marks, put_store, set_value}
use Rattle.core_constructs.specs.Outputs.{live, sets_from_option, sets_layer}
use Rattle.core_constructs.specs.Told.{shares_name}
use Rattle.core_laws.specs.Laws.{is_nameless, saves_nameless}
use Rattle.core_laws.proofs.Actions.{IsFairItem}
use Rattle.core_laws.proofs.Alike.{stores_in, NoMarks}
use Rattle.core_laws.proofs.Caught.{ItemAt, any_place, caught_count, caught_size, item_at, units_least}
use Rattle.core_laws.proofs.Choice.{plainly}
use Rattle.core_laws.proofs.Contexts.{CountsAlike, counts_alike, names_any}
use Rattle.core_laws.proofs.Holds.{CatchesAlike}
use Rattle.core_laws.proofs.Marks.{IsUnmarked, Unmarked}
use Rattle.core_laws.proofs.Outputs.{AreFairItems}
use Rattle.core_laws.proofs.Rising.{same_number, not_in_rising}
use Rattle.core_laws.proofs.Saves.{IsNoted}
use Rattle.core_laws.proofs.Values.{IsStoreAt, meaning_at, number_of_other, saved_itself, store_at}
use Rattle.core_constructs.specs.Spent.{least_width}

true_false : true ≡ false → ⊥
true_false e = grind arith

false_true : false ≡ true → ⊥
false_true e = grind arith

-- ---- each item of a list

abbrev pub AllOf : {A : Type 0} → (A → Type 0) → List A → Type 0
AllOf P [] = Unit {0}
AllOf P (x ∷ xs) = P x × AllOf P xs

pub all_first : {A : Type 0} (P : A → Type 0) (xs ys : List A) → AllOf P (xs ++ ys) → AllOf P xs
all_first P [] ys all = tt
all_first P (x ∷ xs) ys all = (all.0, all_first P xs ys all.1)

pub all_second : {A : Type 0} (P : A → Type 0) (xs ys : List A) → AllOf P (xs ++ ys) → AllOf P ys
all_second P [] ys all = all
all_second P (x ∷ xs) ys all = all_second P xs ys all.1

pub all_joined : {A : Type 0} (P : A → Type 0) (xs ys : List A) → AllOf P xs → AllOf P ys → AllOf P (xs ++ ys)
all_joined P [] ys one other = other
all_joined P (x ∷ xs) ys one other = (one.0, all_joined P xs ys one.1 other)

-- those of one list among several
pub all_at : {A B : Type 0} (P : B → Type 0) (f : A → List B) (xs : List A) (place : ℕ) (x : A) → AllOf P (flat_map f xs) → slice_get xs place ≡ Some x → AllOf P (f x)
all_at P f [] place x all listed = absurd (none-some x listed)
all_at P f (y ∷ xs) zero x all listed = subst (λ z. AllOf P (f z)) (same_Some y x listed) (all_first P (f y) (flat_map f xs) all)
all_at P f (y ∷ xs) (suc place) x all listed = all_at P f xs place x (all_second P (f y) (flat_map f xs) all) listed

-- ---- items that any output may have

-- an item puts no mark; it puts elements only of these stores; a value that one of these stores is set to has no mark; and it saves no
-- store without a name
pub record IsPlainItem (stores : List Store) (puts : List ℕ) (item : Out) : Type 0 where
  pub mark : item_marks item ≡ []
  pub put : (store : ℕ) → is_among store (put_store item) ≡ true → is_among store puts ≡ true
  pub value : (value : ℕ) → is_among value (set_value puts item) ≡ true → NoMarks (elements_of stores value)
  pub named : saves_nameless stores item ≡ false

module _ (tables : Tables) (puts : List ℕ) (clean : (store : ℕ) → is_among store puts ≡ true → NoMarks (elements_of tables.stores store))
    (alone : shares_name tables.stores (rising (tab_options tables)) ≡ false) where
  -- each store of the tables isn't an option, or is saved under itself
  pub noted : (n : ℕ) → n < length tables.stores → IsNoted (stores_in tables) n
  noted n less = by_option (is_among n (tab_options tables)) refl
    where
      by_name : (b : Bool) → is_named (stores_in tables) n ≡ b → is_among n (tab_options tables) ≡ true → saved_under (stores_in tables) n ≡ n
      by_name true named among = saved_itself (tab_options tables) tables.stores n less among alone named
      by_name false named among = ap (λ (b : Bool). if b then last_option_named (name_at (stores_in tables) n) 0 (stores_in tables) n else n) named

      by_option : (b : Bool) → is_among n (tab_options tables) ≡ b → IsNoted (stores_in tables) n
      by_option true among = inr (by_name (is_named (stores_in tables) n) refl among)
      by_option false other = inl (number_of_other (tab_options tables) tables.stores n less other)

  is_named_store : (n : ℕ) → n < length tables.stores → is_nameless (slice_get tables.stores n) ≡ false → is_named (stores_in tables) n ≡ true
  is_named_store n less named =
      ap (λ (o : Option StoreMeaning). not (nat_eq (length (option_map_or (λ (store : StoreMeaning). store.name) o [])) 0)) (meaning_at (tab_options tables) tables.stores n at.store at.listed)
      ∙ (λ i. not ((ap is_nameless (sym at.listed) ∙ named) i))
    where
      at : IsStoreAt tables.stores n
      at = store_at tables.stores n less

  module _ (context : List Pat) (caught : Caught) (last : LastMatch) where
    abbrev Fair : Out → Type 0
    Fair item = IsFairItem tables puts context caught last item

    one_fair : (item : Out) (more : List ℕ) → IsPlainItem tables.stores puts item → All (λ store. store < length tables.stores) (stores_of_output item ++ more) → sets_from_option (rising (tab_options tables)) item ≡ false → sets_layer item ≡ false
        → (needs_context item ≡ true → Fair item) → Fair item
    one_fair (output.Mark m) more plain below value layer matched = absurd (omega (arith, ap length plain.mark))
    one_fair (output.Index store offset) more plain below value layer matched = matched refl
    one_fair output.Context more plain below value layer matched = matched refl
    one_fair (output.ContextAt offset) more plain below value layer matched = matched refl
    one_fair (output.Set store v) more plain below value layer matched =
        record {
          below = All-head (λ store. store < length tables.stores) store (v ∷ more) below;
          value_below = All-head (λ store. store < length tables.stores) v more (All-tail (λ store. store < length tables.stores) store (v ∷ more) below);
          other = not_in_rising v (tab_options tables) value;
          clean = λ among. plain.value v (ap (λ (b : Bool). is_among v (if b then v ∷ [] else [])) among ∙ (λ i. same_number v i || false));
        }
    one_fair (output.SetSystem id v) more plain below value layer matched = absurd (true_false layer)
    one_fair (output.Save store) more plain below value layer matched =
        let less = All-head (λ store. store < length tables.stores) store more below in
        record { named = is_named_store store less plain.named; noted = noted store less }
    one_fair (output.Reset store) more plain below value layer matched =
        let less = All-head (λ store. store < length tables.stores) store more below in
        record { below = less; noted = noted store less; clean = clean store }
    one_fair (output.Char c) more plain below value layer matched = tt
    one_fair (output.Enter g) more plain below value layer matched = tt
    one_fair output.Nul more plain below value layer matched = tt
    one_fair output.Beep more plain below value layer matched = tt
    one_fair output.Stop more plain below value layer matched = tt

    rest_below : (ns ms : List ℕ) → All (λ store. store < length tables.stores) (ns ++ ms) → All (λ store. store < length tables.stores) ms
    rest_below [] ms below = below
    rest_below (n ∷ ns) ms below = rest_below ns ms (All-tail (λ store. store < length tables.stores) n (ns ++ ms) below)

    -- the live items of an output, if those that put what was matched are fair
    pub live_fair : (outputs : List Out) → AllOf (IsPlainItem tables.stores puts) (live outputs) → All (λ store. store < length tables.stores) (flat_map stores_of_output outputs)
        → list_any (sets_from_option (rising (tab_options tables))) (live outputs) ≡ false → list_any sets_layer (live outputs) ≡ false
        → AllOf (λ (item : Out). needs_context item ≡ true → Fair item) (live outputs) → AreFairItems tables puts context caught last (live outputs)
    live_fair [] plain below value layer matched = tt
    live_fair (output.Stop ∷ outputs) plain below value layer matched = (tt, tt)
    live_fair (item ∷ outputs) plain below value layer matched =
        let one = or_parts (sets_from_option (rising (tab_options tables)) item) (list_any (sets_from_option (rising (tab_options tables))) (live outputs)) value in
        let two = or_parts (sets_layer item) (list_any sets_layer (live outputs)) layer in (
          one_fair item (flat_map stores_of_output outputs) plain.0 below one.0 two.0 matched.0,
          live_fair outputs plain.1 (rest_below (stores_of_output item) (flat_map stores_of_output outputs) below) one.1 two.1 matched.1,
        )

  -- a match or nomatch output puts nothing that was matched
  pub alone_matched : (last : LastMatch) (outputs : List Out) → All (λ item. needs_context item ≡ false) outputs → AllOf (λ (item : Out). needs_context item ≡ true → IsFairItem tables puts [] nothing last item) (live outputs)
  alone_matched last [] none = tt
  alone_matched last (output.Stop ∷ outputs) none = (λ needs. absurd (false_true needs), tt)
  alone_matched last (item ∷ outputs) none =
      (λ needs. absurd (true_false (sym needs ∙ All-head (λ item. needs_context item ≡ false) item outputs none)), alone_matched last outputs (All-tail (λ item. needs_context item ≡ false) item outputs none))

-- ---- items that put what was matched

same_first : (ps : List Pat) → told.begins_with_nul ps ≡ begins_with_nul ps
same_first [] = refl
same_first (p ∷ ps) = refl

-- without `nul`, what is not matched is a condition
conditions_count : (ps : List Pat) → list_any is_nul ps ≡ false → count_by is_condition ps ≡ count_by is_unmatched ps
conditions_count [] none = refl
conditions_count (p ∷ ps) none =
    let parts = or_parts (is_nul p) (list_any is_nul ps) none in
    sum_by-cons (λ (q : Pat). cond (is_condition q) 1 0) p ps
    ∙ (λ i. cond (one p parts.0 i) 1 0 + conditions_count ps parts.1 i)
    ∙ sym (sum_by-cons (λ (q : Pat). cond (is_unmatched q) 1 0) p ps)
  where
    one : (p : Pat) → is_nul p ≡ false → is_condition p ≡ is_unmatched p
    one (pattern.Char c) other = refl
    one (pattern.Mark m) other = refl
    one (pattern.Any s) other = refl
    one (pattern.NotAny s) other = refl
    one (pattern.Index s k) other = refl
    one (pattern.ContextAt k) other = refl
    one (pattern.Equal s v) other = refl
    one (pattern.Unequal s v) other = refl
    one (pattern.SystemEqual s v) other = refl
    one (pattern.SystemUnequal s v) other = refl
    one pattern.Nul other = absurd (true_false other)

no_nul : (ps : List Pat) → has_late_nul ps ≡ false → begins_with_nul ps ≡ false → list_any is_nul ps ≡ false
no_nul [] late first = refl
no_nul (p ∷ ps) late first = λ i. first i || late i

-- a pattern at a place
record IsMatchedAt (ps : List Pat) (place : ℕ) : Type 0 where
  p : Pat
  listed : slice_get ps place ≡ Some p
  matched : is_matched p ≡ true

matched_at : (ps : List Pat) (place : ℕ) → IsSomeAnd (slice_get ps place) (λ p. is_matched p ≡ true) → IsMatchedAt ps place
matched_at ps place some = by_item (slice_get ps place) refl some
  where
    by_item : (o : Option Pat) → slice_get ps place ≡ o → IsSomeAnd o (λ p. is_matched p ≡ true) → IsMatchedAt ps place
    by_item None listed some = absurd some
    by_item (Some p) listed some = record { p = p; listed = listed; matched = some }

any_below : (ps : List Pat) (place : ℕ) → IsSomeAnd (slice_get ps place) (λ p. is_any p ≡ true) → place < length ps
any_below [] place some = absurd some
any_below (p ∷ ps) zero some = omega arith
any_below (p ∷ ps) (suc place) some = omega (arith, any_below ps place some)

unmarked_get : (xs : List Item) (i : ℕ) (x : Item) → Unmarked xs → slice_get xs i ≡ Some x → IsUnmarked x
unmarked_get [] i x plain listed = absurd (none-some x listed)
unmarked_get (y ∷ xs) zero x plain listed = ap is_mark (sym (same_Some y x listed)) ∙ All-head (λ item. is_mark item ≡ false) y xs plain
unmarked_get (y ∷ xs) (suc i) x plain listed = unmarked_get xs i x (All-tail (λ item. is_mark item ≡ false) y xs plain) listed

module _ (version : CoreVersion) (tables : Tables) (puts : List ℕ) (facts : Facts) (context : List Pat) (items : List Out) (window : List Item) (catches : List Catch) (tried : Tried)
    (late : has_late_nul context ≡ false) (offsets : counts_differently context items ≡ false) (held : CatchesAlike facts window context catches tried) (plain : Unmarked window) where
  -- what is remembered of a record that is used
  abbrev pub remembered : LastMatch
  remembered = record { kept = last_items (compared_count context) window; skipped = skipped_count version context; places = tried.1 }

  counts : CountsAlike context items
  counts = counts_alike context items offsets

  plain_kept : Unmarked (last_items (compared_count context) window)
  plain_kept = All-drop (λ item. is_mark item ≡ false) (length window - compared_count context) window plain

  -- an item that names an offset is in no output after a first `nul`
  no_first : (item : Out) → list_any puts_by_offset items ≡ true → begins_with_nul context ≡ false
  no_first item some = sym (same_first context) ∙ by_tests (told.begins_with_nul context) (list_any has_offset context) (list_any puts_by_offset items) counts.first some
    where
      by_tests : (a b d : Bool) → (a && (b || d)) ≡ false → d ≡ true → a ≡ false
      by_tests false b d told some = refl
      by_tests true true d told some = absurd (true_false told)
      by_tests true false d told some = absurd (true_false (sym some ∙ told))

  matched_item : (item : Out) → PointsInto context item → is_moved_output context item ≡ false → (puts_by_offset item ≡ true → list_any puts_by_offset items ≡ true) → IsPlainItem tables.stores puts item → needs_context item ≡ true
      → IsFairItem tables puts context (plainly catches) remembered item
  matched_item (output.Index store zero) points unmoved some item needs = absurd points
  matched_item (output.Index store (suc before)) points unmoved some item needs =
      record {
        among = item.put store (λ i. same_number store i || false);
        place = found.0;
        here = (λ i. if other i then None else place_caught catches (suc before)) ∙ found.1;
        there = held.places (no_first (output.Index store (suc before)) (some refl)) (suc before) found.0 found.1;
      }
    where
      found : (place : ℕ) × (place_caught catches (suc before) ≡ Some place)
      found = any_place facts context context catches before held.caught (names_any context (suc before) points)

      other : nat_eq (suc before) (length catches + 1) ≡ false
      other = apart (suc before) (length catches + 1) (omega (arith, any_below context before points, caught_size facts context context catches held.caught))
        where
          apart : (n m : ℕ) → n < m → nat_eq n m ≡ false
          apart n m less = grind (arith, nat_tests)
  matched_item output.Context points unmoved some item needs =
      record {
        kept = sym held.kept;
        plain = plain_kept;
        count = subst (λ (xs : List Item). length xs ≤ length context) held.kept (omega (arith, caught_count facts context context catches held.caught, count_by-le-length is_matched context));
        least = subst (λ (xs : List Item). sum_by least_width context ≤ units xs) held.kept (units_least facts context context catches held.caught);
      }
  matched_item (output.ContextAt zero) points unmoved some item needs = absurd points
  matched_item (output.ContextAt (suc before)) points unmoved some item needs =
      record {
        item = found.item;
        here = found.caught;
        there = kept_there;
        plain = unmarked_get (last_items (compared_count context) window) (suc before - 1 - skipped_count version context) found.item plain_kept kept_there;
        least = subst (λ (n : ℕ). option_map_or least_width (slice_get context n) 0 ≤ weight found.item) (sym index) found.least;
      }
    where
      at : IsMatchedAt context before
      at = matched_at context before points

      found : ItemAt facts context context catches before
      found = item_at facts context context catches before at.p held.caught at.listed at.matched

      index : suc before - 1 ≡ before
      index = omega arith

      first : begins_with_nul context ≡ false
      first = no_first (output.ContextAt (suc before)) (some refl)

      skipped : skipped_count version context ≡ count_by is_unmatched context
      skipped =
          (λ i. conditions_count context (no_nul context late first) i + (if first i && is_18 version then 1 else 0))
          ∙ omega arith

      same_place : suc before - 1 - count_by is_unmatched context ≡ suc before - 1 - unmatched_before context (suc before)
      same_place = equal (suc before - 1 - count_by is_unmatched context) (suc before - 1 - unmatched_before context (suc before)) unmoved
        where
          equal : (n m : ℕ) → not (nat_eq n m) ≡ false → n ≡ m
          equal n m e = grind (arith, nat_tests)

      place_is : suc before - 1 - skipped_count version context ≡ before - count_by is_unmatched (take before context)
      place_is =
          ap (λ (n : ℕ). suc before - 1 - n) skipped ∙ same_place
          ∙ (λ i. index i - count_by is_unmatched (take (index i) context))

      kept_there : slice_get (last_items (compared_count context) window) (suc before - 1 - skipped_count version context) ≡ Some found.item
      kept_there = (λ i. slice_get (sym held.kept i) (place_is i)) ∙ found.kept
  matched_item (output.Char c) points unmoved some item needs = absurd (false_true needs)
  matched_item (output.Mark m) points unmoved some item needs = absurd (false_true needs)
  matched_item (output.Enter g) points unmoved some item needs = absurd (false_true needs)
  matched_item (output.Set store v) points unmoved some item needs = absurd (false_true needs)
  matched_item (output.SetSystem id v) points unmoved some item needs = absurd (false_true needs)
  matched_item (output.Save store) points unmoved some item needs = absurd (false_true needs)
  matched_item (output.Reset store) points unmoved some item needs = absurd (false_true needs)
  matched_item output.Nul points unmoved some item needs = absurd (false_true needs)
  matched_item output.Beep points unmoved some item needs = absurd (false_true needs)
  matched_item output.Stop points unmoved some item needs = absurd (false_true needs)

  matched_from : (outputs : List Out) → All (PointsInto context) outputs → list_any (is_moved_output context) (live outputs) ≡ false → (list_any puts_by_offset (live outputs) ≡ true → list_any puts_by_offset items ≡ true)
      → AllOf (IsPlainItem tables.stores puts) (live outputs) → AllOf (λ (item : Out). needs_context item ≡ true → IsFairItem tables puts context (plainly catches) remembered item) (live outputs)
  matched_from [] points unmoved some all = tt
  matched_from (output.Stop ∷ outputs) points unmoved some all = (λ needs. absurd (false_true needs), tt)
  matched_from (item ∷ outputs) points unmoved some all =
      let moved = or_parts (is_moved_output context item) (list_any (is_moved_output context) (live outputs)) unmoved in (
        matched_item item (All-head (PointsInto context) item outputs points) moved.0 (λ here. some (λ i. here i || list_any puts_by_offset (live outputs))) all.0,
        matched_from outputs (All-tail (PointsInto context) item outputs points) moved.1 (λ rest. some (behind (puts_by_offset item) rest)) all.1,
      )
    where
      behind : (b : Bool) → list_any puts_by_offset (live outputs) ≡ true → (b || list_any puts_by_offset (live outputs)) ≡ true
      behind true rest = refl
      behind false rest = rest

-- the items of a record's output that put what was matched
pub matched_fair : (version : CoreVersion) (tables : Tables) (puts : List ℕ) (facts : Facts) (context : List Pat) (outputs : List Out) (window : List Item) (catches : List Catch) (tried : Tried) → has_late_nul context ≡ false
    → counts_differently context (live outputs) ≡ false → CatchesAlike facts window context catches tried → Unmarked window → All (PointsInto context) outputs → AllOf (IsPlainItem tables.stores puts) (live outputs)
    → AllOf (λ (item : Out). needs_context item ≡ true → IsFairItem tables puts context (plainly catches) (record { kept = last_items (compared_count context) window; skipped = skipped_count version context; places = tried.1 }) item) (live outputs)
matched_fair version tables puts facts context outputs window catches tried late offsets held plain points all =
    matched_from version tables puts facts context (live outputs) window catches tried late offsets held plain outputs points (counts_alike context (live outputs) offsets).outputs (λ some. some) all

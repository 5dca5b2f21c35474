-- A context of which nothing is reported holds in Keyman's own engine if and only if it does in this product, and catches the same items.
use Rattle.std.specs.Prelude.{◌≡◌, ℕ, ◌+◌, ◌-◌, ◌<◌, ◌≤◌, min, Bool, true, false, not, ◌&&◌, ◌||◌, nat_eq, nat_le, nat_lt, cond, if◌then◌else◌, List, [], ◌∷◌, ◌++◌, length, map, take, drop, flat_map, count_by, sum_by, is_some, Option, Some, None}
use Rattle.std.specs.List.{All, cons_option, list_all, list_any}
use Rattle.std.proofs.Common.{◌⊎◌, refl, sym, ap, ◌∙◌, arith, inl, inr, length-append, length-drop, append_assoc}
use Rattle.std.proofs.Math.Path.{subst}
use Rattle.std.proofs.Math.Seq.{drop-append-add}
use Rattle.std.proofs.lemmas.Bool.{or_parts, and_parts}
use Rattle.std.proofs.lemmas.Bool.Decides.{leb_tells, nat_tests}
use Rattle.std.proofs.lemmas.List.{take-append-drop}
use Rattle.std.proofs.lemmas.List.Elements.{All-drop, All-head, All-tail}
use Rattle.std.proofs.lemmas.List.Sums.{sum_by-cons}
use Rattle.std.proofs.lemmas.Option.{none-some}
use Rattle.kmn_base.specs.declared.items.Item.{Item}
use Rattle.kmn_base.specs.Lists.{is_mark}
use Rattle.rule_model.specs.declared.event_state.Catch.{Catch}
use Rattle.rule_model.specs.declared.tables.Pat.{Pat}
use Rattle.rule_model.specs.declared.tables.Pat.TheVariants as pattern
use Rattle.rule_model.specs.declared.tables.Out.{Out}
use Rattle.rule_model.specs.declared.tables.Store.{Store}
use Rattle.rule_model.specs.Keyboard.{Platform}
use Rattle.rule_model.specs.Match.{Content, place_caught, catches_from, nothing_caught}
use Rattle.rule_model.specs.Act.{item_list}
use Rattle.rule_model.specs.Hold.{is_true, is_at_start, pattern_count, has_room}
use Rattle.rule_model.specs.Patterns.{is_matched, is_nul}
use Rattle.rule_model.specs.Tab.{tab_pattern}
use Rattle.kmx_format.specs.Writable.{stores_of_pattern, IsWritableContext}
use Rattle.core_meaning.specs.Events.{units, CoreKeyboard, last_items}
use Rattle.core_meaning.specs.Contexts.{Tried, place_found, core_condition, core_match, core_holds, begins_with_nul, behind_nul, compared_count, first_places, has_items}
use Rattle.core_meaning.specs.ContextLaws.{stated_platform, FindsAlike, AreAlike, AreTriedAlike, caught_of}
use Rattle.core_meaning.proofs.ConditionsAlike.{conditions_are_alike}
use Rattle.core_meaning.proofs.HoldsAlike.{contexts_hold_alike}
use Rattle.core_constructs.specs.declared.facts.Facts.{Facts}
use Rattle.core_constructs.specs.Contexts.{asks_empty_word, asks_from_option, asks_layer, asks_unput, counts_differently, has_late_nul, has_offset, puts_by_offset}
use Rattle.core_constructs.specs.Contexts as told
use Rattle.core_constructs.specs.Widths.{is_long, widest, width_in, with_context}
use Rattle.core_laws.proofs.Caught.{AreCaught, HasWidths, all_caught, at_least_two, items_in, units_most}
use Rattle.core_laws.proofs.Compared.{HasNul, Without, First, nul_of, counted, all_compared, compared_matched, text_caught, plain_matches, unput_fails}
use Rattle.core_laws.proofs.Contexts.{HasValues, all_alike, all_tried, counts_alike}
use Rattle.core_laws.proofs.Marks.{Unmarked, light, unmarked_at}
use Rattle.core_laws.proofs.Windows.{Seen, HasLast, last_of}

true_false : true ≡ false → ⊥
true_false e = grind arith

false_true : false ≡ true → ⊥
false_true e = grind arith

-- a context of which nothing is reported, in a group that is entered when these units can be spent, before these live items
pub record IsFairContext (facts : Facts) (stores : List Store) (count spent : ℕ) (items : List Out) (context : List Pat) : Type 0 where
  pub late : has_late_nul context ≡ false
  pub offsets : counts_differently context items ≡ false
  pub short : is_long facts spent context ≡ false
  pub layer : list_any asks_layer context ≡ false
  pub platform : list_any (asks_empty_word stores) context ≡ false
  pub value : list_any (asks_from_option facts.options) context ≡ false
  pub writable : IsWritableContext count context

-- it catches the last items of the window, and each place that it catches is found
pub record CatchesAlike (facts : Facts) (window : List Item) (context : List Pat) (catches : List Catch) (tried : Tried) : Type 0 where
  pub held : tried.0 ≡ true
  pub caught : AreCaught facts context context catches
  pub kept : items_in catches ≡ last_items (compared_count context) window
  pub inside : compared_count context ≤ length window
  pub places : begins_with_nul context ≡ false → (offset place : ℕ) → place_caught catches offset ≡ Some place → place_found tried.1 offset ≡ place

abbrev pub HeldAlike : Facts → List Item → List Pat → Option (List Catch) → Tried → Type 0
HeldAlike facts window context None tried = tried.0 ≡ false
HeldAlike facts window context (Some catches) tried = CatchesAlike facts window context catches tried

-- ---- ends

-- the last n items of the text are those of the window, if it has as many
pub last_of_text : (n : ℕ) (before window : List Item) → n ≤ length window → drop (length (before ++ window) - n) (before ++ window) ≡ last_items n window
last_of_text n before window fits =
    ap (λ (m : ℕ). drop m (before ++ window)) (ap (λ (m : ℕ). m - n) (length-append before window) ∙ apart (length before) (length window) fits)
    ∙ drop-append-add before window (length window - n)
  where
    apart : (a b : ℕ) → n ≤ b → a + b - n ≡ a + (b - n)
    apart a b h = omega arith

-- what is done if a test is true is something only if it is
tested : {A : Type 0} (b : Bool) (o : Option A) (x : A) → (if b then o else None) ≡ Some x → (b ≡ true) × (o ≡ Some x)
tested true o x e = (refl, e)
tested false o x e = absurd (none-some x e)

none_among : (ps : List Pat) → HasNul ps → begins_with_nul ps ≡ false → list_any is_nul ps ≡ false
none_among ps (Without none first) plain = none
none_among (pattern.Nul ∷ ps) (First none) plain = absurd (true_false plain)

-- without `nul` at the start, no `nul` is tested
no_starts : (stores : List Store) (ps : List Pat) → list_any is_nul ps ≡ false → list_any is_at_start (map (tab_pattern stores) ps) ≡ false
no_starts stores [] none = refl
no_starts stores (p ∷ ps) none =
    let parts = or_parts (is_nul p) (list_any is_nul ps) none in
    λ i. one p parts.0 i || no_starts stores ps parts.1 i
  where
    one : (p : Pat) → is_nul p ≡ false → is_at_start (tab_pattern stores p) ≡ false
    one (pattern.Char c) other = refl
    one (pattern.Mark m) other = refl
    one (pattern.Any s) other = refl
    one (pattern.NotAny s) other = refl
    one (pattern.Index s k) other = refl
    one (pattern.ContextAt k) other = refl
    one (pattern.Equal s v) other = refl
    one (pattern.Unequal s v) other = refl
    one (pattern.SystemEqual s v) other = refl
    one (pattern.SystemUnequal s v) other = refl
    one pattern.Nul other = absurd (true_false other)

fits_of : (a b : ℕ) → nat_le a b ≡ true → a ≤ b
fits_of a b told = grind (arith, leb_tells)

-- an item is matched, if some are
some_matched : (ps : List Pat) (n : ℕ) → n < count_by is_matched ps → list_any is_matched ps ≡ true
some_matched [] n less = absurd (none_less n less)
  where
    none_less : (n : ℕ) → n < 0 → ⊥
    none_less n h = omega arith
some_matched (p ∷ ps) n less = by_test (is_matched p) refl (some_matched ps n)
  where
    by_test : (b : Bool) → is_matched p ≡ b → (n < count_by is_matched ps → list_any is_matched ps ≡ true) → (b || list_any is_matched ps) ≡ true
    by_test true is rest = refl
    by_test false is rest = rest (omega (arith, less, sum_by-cons (λ (q : Pat). cond (is_matched q) 1 0) p ps ∙ ap (λ (b : Bool). cond b 1 0 + count_by is_matched ps) is))

-- ---- the width of a context

-- a context that is not long has units left
fits_window : (facts : Facts) (spent : ℕ) (context : List Pat) → is_long facts spent context ≡ false → list_any is_matched context ≡ true → spent + sum_by (width_in facts context) context ≤ 63
unfolding is_long
fits_window facts spent context short some = by_sum (spent + sum_by (width_in facts context) context) (by_match (nat_lt 63 (with_context facts context spent)) (list_any is_matched context) (or_parts _ _ short).0 some)
  where
    by_match : (a b : Bool) → (a && b) ≡ false → b ≡ true → a ≡ false
    by_match false b none told = refl
    by_match true true none told = none
    by_match true false none told = absurd (false_true told)

    by_sum : (n : ℕ) → nat_lt 63 (min 64 n) ≡ false → n ≤ 63
    by_sum n e = grind (arith, nat_tests)

-- one that begins with `nul` leaves two more
fits_start : (facts : Facts) (spent : ℕ) (context : List Pat) → is_long facts spent context ≡ false → told.begins_with_nul context ≡ true → spent + sum_by (width_in facts context) context ≤ 61
unfolding is_long
fits_start facts spent context short first = by_sum (spent + sum_by (width_in facts context) context) (widest facts) (at_least_two facts) (by_match (told.begins_with_nul context) (nat_lt (63 - widest facts) (with_context facts context spent)) (or_parts _ _ short).1 first)
  where
    by_match : (a b : Bool) → (a && b) ≡ false → a ≡ true → b ≡ false
    by_match true b none told = none
    by_match false b none told = absurd (false_true told)

    by_sum : (n w : ℕ) → 2 ≤ w → nat_lt (63 - w) (min 64 n) ≡ false → n ≤ 61
    by_sum n w wide e = grind (arith, nat_tests)

module _ (kb : CoreKeyboard) (facts : Facts) (stores : List Store) (count : ℕ) (content : Content) (widths : HasWidths facts count content)
    (values : HasValues facts.options count stores content) (unset : content Platform ≡ stated_platform)
    (spent : ℕ) (items : List Out) (context : List Pat) (fair : IsFairContext facts stores count spent items context)
    (left window : List Item) (plain : Unmarked left) (seen : Seen spent left window) where
  abbrev patterns_count : ℕ
  patterns_count = pattern_count (map (tab_pattern stores) context)

  abbrev text_end : List Item
  text_end = drop (length left - patterns_count) left

  -- what is caught of the end of the text is known, and is not wider than the context
  caught_here : (catches : List Catch) → catches_from content [] (map (tab_pattern stores) context) text_end ≡ Some catches → AreCaught facts context context catches
  caught_here catches e = all_caught facts count content stores context widths [] context fair.writable.stores [] text_end catches refl tt (All-drop (λ item. is_mark item ≡ false) (length left - patterns_count) left plain) e

  items_here : (catches : List Catch) → catches_from content [] (map (tab_pattern stores) context) text_end ≡ Some catches → items_in catches ≡ text_end
  items_here catches e = text_caught content (map (tab_pattern stores) context) [] text_end catches e

  -- the text that was caught is in the window
  reaches_end : (catches : List Catch) → catches_from content [] (map (tab_pattern stores) context) text_end ≡ Some catches → spent + sum_by (width_in facts context) context ≤ 63 → length text_end ≤ length window
  reaches_end catches e fits =
      seen.reaches (take (length left - patterns_count) left) text_end (sym (take-append-drop (length left - patterns_count) left))
      (omega (arith, fits, units_most facts context context catches (caught_here catches e), ap units (items_here catches e)))

  end_length : patterns_count ≤ length left → length text_end ≡ patterns_count
  end_length room = length-drop (length left - patterns_count) left ∙ back (length left) room
    where
      back : (n : ℕ) → patterns_count ≤ n → n - (n - patterns_count) ≡ patterns_count
      back n h = omega arith

  compared_is : compared_count context ≡ patterns_count
  compared_is = compared_matched context (nul_of context fair.late) ∙ sym (counted stores context)

  -- ---- without `nul`

  module _ (none : list_any is_nul context ≡ false) (first : begins_with_nul context ≡ false) where
    alike : AreAlike [] context
    alike = all_alike context fair.writable.offsets [] context refl none (counts_alike context items fair.offsets).patterns

    tried_alike : AreTriedAlike content stores context
    tried_alike = all_tried facts.options count stores content values unset context fair.value fair.layer fair.platform fair.writable.systems fair.writable.stores

    -- the window is long enough
    enough : compared_count context ≤ length window → (o : Option (List Catch)) → caught_of content (map (tab_pattern stores) context) left ≡ o → HeldAlike facts window context o (core_holds kb content window context)
    enough long o is = by_caught o is (subst (λ (c : Option (List Catch)). FindsAlike c (core_holds kb content window context)) is found)
      where
        found : FindsAlike (caught_of content (map (tab_pattern stores) context) left) (core_holds kb content window context)
        found =
            subst (λ (xs : List Item). FindsAlike (caught_of content (map (tab_pattern stores) context) xs) (core_holds kb content window context)) (sym seen.parts)
            (contexts_hold_alike kb content stores context seen.before window alike tried_alike (inl (omega (arith, long, compared_is, counted stores context, all_compared context none))))

        by_caught : (o : Option (List Catch)) → caught_of content (map (tab_pattern stores) context) left ≡ o → FindsAlike o (core_holds kb content window context) → HeldAlike facts window context o (core_holds kb content window context)
        by_caught None is finds = finds
        by_caught (Some catches) is finds =
            let parts = tested (list_all (is_true content) (map (tab_pattern stores) context) && has_room (map (tab_pattern stores) context) left) (catches_from content [] (map (tab_pattern stores) context) text_end) catches is in
            record {
              held = finds.0;
              caught = caught_here catches parts.1;
              kept =
                  items_here catches parts.1
                  ∙ ap (λ (n : ℕ). drop (length left - n) left) (sym compared_is)
                  ∙ ap (λ (xs : List Item). drop (length xs - compared_count context) xs) seen.parts
                  ∙ last_of_text (compared_count context) seen.before window long;
              inside = long;
              places = λ told. finds.1;
            }

    -- the window is too short
    few : length window < compared_count context → (o : Option (List Catch)) → caught_of content (map (tab_pattern stores) context) left ≡ o → HeldAlike facts window context o (core_holds kb content window context)
    few short None is =
        ap (λ (b : Bool). (if (b && (not (begins_with_nul context) || nat_le (length window) (compared_count context))) && list_all (core_condition kb content) context
        then core_match content (behind_nul context) (first_places kb.version context) [] (last_items (compared_count context) window) else (false, [])).0) (too_few (compared_count context) (length window) short)
      where
        too_few : (n m : ℕ) → m < n → nat_le n m ≡ false
        too_few n m less = grind (arith, leb_tells)
    few short (Some catches) is = absurd (longer reaches)
      where
        parts : (list_all (is_true content) (map (tab_pattern stores) context) && has_room (map (tab_pattern stores) context) left ≡ true) × (catches_from content [] (map (tab_pattern stores) context) text_end ≡ Some catches)
        parts = tested (list_all (is_true content) (map (tab_pattern stores) context) && has_room (map (tab_pattern stores) context) left) (catches_from content [] (map (tab_pattern stores) context) text_end) catches is

        room_test : (a b start : Bool) → (a && (if start then b else nat_le patterns_count (length left))) ≡ true → start ≡ false → nat_le patterns_count (length left) ≡ true
        room_test true b false told is = told
        room_test false b false told is = absurd (false_true told)
        room_test a b true told is = absurd (true_false is)

        room : patterns_count ≤ length left
        room = fits_of patterns_count (length left) (room_test (list_all (is_true content) (map (tab_pattern stores) context)) (nat_eq (length left) patterns_count) (list_any is_at_start (map (tab_pattern stores) context)) parts.0 (no_starts stores context none))

        reaches : length text_end ≤ length window
        reaches = reaches_end catches parts.1 (fits_window facts spent context fair.short (some_matched context (length window) (omega (arith, short, compared_is, counted stores context))))

        longer : length text_end ≤ length window → ⊥
        longer h = omega (arith, h, end_length room, compared_is, short)

    held_without : HeldAlike facts window context (caught_of content (map (tab_pattern stores) context) left) (core_holds kb content window context)
    held_without = by_test (nat_le (compared_count context) (length window)) refl
      where
        by_test : (b : Bool) → nat_le (compared_count context) (length window) ≡ b → HeldAlike facts window context (caught_of content (map (tab_pattern stores) context) left) (core_holds kb content window context)
        by_test true told = enough (fits_of (compared_count context) (length window) told) (caught_of content (map (tab_pattern stores) context) left) refl
        by_test false told = few (grind (arith, leb_tells)) (caught_of content (map (tab_pattern stores) context) left) refl

-- ---- with `nul` first

same_conditions : (kb : CoreKeyboard) (content : Content) (stores : List Store) (ps : List Pat) → AreTriedAlike content stores ps → list_all (core_condition kb content) ps ≡ list_all (is_true content) (map (tab_pattern stores) ps)
same_conditions kb content stores [] tried = refl
same_conditions kb content stores (p ∷ ps) tried = λ i. conditions_are_alike kb content stores p tried.0 i && same_conditions kb content stores ps tried.1 i

no_items : (xs : List Item) → length xs ≡ 0 → xs ≡ []
no_items [] none = refl
no_items (x ∷ xs) none = absurd (omega (arith, none))

module _ (kb : CoreKeyboard) (facts : Facts) (stores : List Store) (count : ℕ) (content : Content) (widths : HasWidths facts count content)
    (values : HasValues facts.options count stores content) (unset : content Platform ≡ stated_platform)
    (spent : ℕ) (items : List Out) (rest : List Pat) (fair : IsFairContext facts stores count spent items (pattern.Nul ∷ rest))
    (left window : List Item) (plain : Unmarked left) (seen : Seen spent left window) (none : list_any is_nul rest ≡ false) where
  abbrev context : List Pat
  context = pattern.Nul ∷ rest

  abbrev all_count : ℕ
  all_count = pattern_count (map (tab_pattern stores) context)

  abbrev conditions : Bool
  conditions = list_all (is_true content) (map (tab_pattern stores) rest)

  count_is : all_count ≡ count_by is_matched rest
  count_is = counted stores context ∙ sum_by-cons (λ (q : Pat). cond (is_matched q) 1 0) pattern.Nul rest ∙ omega arith

  compared_count_is : compared_count context ≡ count_by is_matched rest
  compared_count_is = all_compared rest none

  no_offsets : list_any has_offset rest ≡ false
  no_offsets = (or_parts (list_any has_offset rest) (list_any puts_by_offset items) (counts_alike context items fair.offsets).first).0

  same_tests : list_all (core_condition kb content) context ≡ conditions
  same_tests = same_conditions kb content stores context (all_tried facts.options count stores content values unset context fair.value fair.layer fair.platform fair.writable.systems fair.writable.stores)

  abbrev there : Bool → Tried
  there test = if test then core_match content rest (first_places kb.version context) [] (last_items (compared_count context) window) else (false, [])

  abbrev test_there : Bool
  test_there = (nat_le (compared_count context) (length window) && nat_le (length window) (compared_count context)) && list_all (core_condition kb content) context

  window_inside : length window ≤ length left
  window_inside = omega (arith, ap length seen.parts, length-append seen.before window)

  -- the window is the whole text, if it has as many items
  whole_window : length left ≤ length window → left ≡ window
  whole_window more = seen.parts ∙ ap (λ (xs : List Item). xs ++ window) (no_items seen.before (omega (arith, more, ap length seen.parts, length-append seen.before window)))

  same_window : length window ≡ compared_count context → last_items (compared_count context) window ≡ window
  same_window same = ap (λ (n : ℕ). drop n window) (zero_of (length window) (compared_count context) same)
    where
      zero_of : (n m : ℕ) → n ≡ m → n - m ≡ 0
      zero_of n m e = omega arith

  -- what a window of that length catches
  matches_there : length window ≡ compared_count context → is_some (catches_from content (nothing_caught ∷ []) (map (tab_pattern stores) rest) window) ≡ (core_match content rest (first_places kb.version context) [] (last_items (compared_count context) window)).0
  matches_there same =
      plain_matches content stores rest none no_offsets window (same ∙ compared_count_is) (nothing_caught ∷ []) (first_places kb.version context) []
      ∙ ap (λ (xs : List Item). (core_match content rest (first_places kb.version context) [] xs).0) (sym (same_window same))

  width_left : spent + sum_by (width_in facts context) context ≤ 61
  width_left = fits_start facts spent context fair.short refl

  -- here it holds, so it does there
  some_first : (catches : List Catch) → caught_of content (map (tab_pattern stores) context) left ≡ Some catches → CatchesAlike facts window context catches (core_holds kb content window context)
  some_first catches is =
      record {
        held = ap (λ (b : Bool). (there b).0) test ∙ sym (matches_there same) ∙ ap is_some caught_window;
        caught = caught_here kb facts stores count content widths values unset spent items context fair left window plain seen catches parts.1;
        kept =
            items_here kb facts stores count content widths values unset spent items context fair left window plain seen catches parts.1
            ∙ end_is ∙ whole ∙ sym (same_window same);
        inside = omega (arith, same);
        places = λ e. absurd (true_false e);
      }
    where
      parts : (conditions && nat_eq (length left) all_count ≡ true) × (catches_from content [] (map (tab_pattern stores) context) (drop (length left - all_count) left) ≡ Some catches)
      parts = tested (conditions && nat_eq (length left) all_count) (catches_from content [] (map (tab_pattern stores) context) (drop (length left - all_count) left)) catches is

      tests : (conditions ≡ true) × (nat_eq (length left) all_count ≡ true)
      tests = and_parts conditions (nat_eq (length left) all_count) parts.0

      size : length left ≡ all_count
      size = equal (length left) all_count tests.1
        where
          equal : (n m : ℕ) → nat_eq n m ≡ true → n ≡ m
          equal n m e = grind (arith, nat_tests)

      end_is : drop (length left - all_count) left ≡ left
      end_is = ap (λ (n : ℕ). drop n left) (zero_of (length left) all_count size)
        where
          zero_of : (n m : ℕ) → n ≡ m → n - m ≡ 0
          zero_of n m e = omega arith

      long : length (drop (length left - all_count) left) ≤ length window
      long = reaches_end kb facts stores count content widths values unset spent items context fair left window plain seen catches parts.1 (omega (arith, width_left))

      whole : left ≡ window
      whole = whole_window (omega (arith, long, ap length end_is))

      same : length window ≡ compared_count context
      same = omega (arith, ap length whole, size, count_is, compared_count_is)

      caught_window : catches_from content (nothing_caught ∷ []) (map (tab_pattern stores) rest) window ≡ Some catches
      caught_window = ap (catches_from content (nothing_caught ∷ []) (map (tab_pattern stores) rest)) (sym (end_is ∙ whole)) ∙ parts.1

      test : test_there ≡ true
      test = λ i. (same_length (compared_count context) (length window) (sym same) i && same_length (length window) (compared_count context) same i) && (same_tests ∙ tests.0) i
        where
          same_length : (n m : ℕ) → n ≡ m → nat_le n m ≡ true
          same_length n m e = grind (arith, leb_tells)

  -- there it holds, so it does here
  none_first : caught_of content (map (tab_pattern stores) context) left ≡ None → (core_holds kb content window context).0 ≡ false
  none_first is = by_test test_there refl
    where
      by_test : (b : Bool) → test_there ≡ b → (there b).0 ≡ false
      by_test false told = refl
      by_test true told = by_match (catches_from content (nothing_caught ∷ []) (map (tab_pattern stores) rest) window) refl
        where
          tests : ((nat_le (compared_count context) (length window) && nat_le (length window) (compared_count context)) ≡ true) × (list_all (core_condition kb content) context ≡ true)
          tests = and_parts (nat_le (compared_count context) (length window) && nat_le (length window) (compared_count context)) (list_all (core_condition kb content) context) told

          sizes : (nat_le (compared_count context) (length window) ≡ true) × (nat_le (length window) (compared_count context) ≡ true)
          sizes = and_parts (nat_le (compared_count context) (length window)) (nat_le (length window) (compared_count context)) tests.0

          same : length window ≡ compared_count context
          same = omega (arith, fits_of (compared_count context) (length window) sizes.0, fits_of (length window) (compared_count context) sizes.1)

          by_match : (o : Option (List Catch)) → catches_from content (nothing_caught ∷ []) (map (tab_pattern stores) rest) window ≡ o → (core_match content rest (first_places kb.version context) [] (last_items (compared_count context) window)).0 ≡ false
          by_match None caught = sym (matches_there same) ∙ ap is_some caught
          by_match (Some catches) caught = by_last (last_of seen.before)
            where
              caught_all : catches_from content [] (map (tab_pattern stores) context) window ≡ Some catches
              caught_all = caught

              window_plain : Unmarked window
              window_plain = subst Unmarked (ap (λ (xs : List Item). drop (length seen.before) xs) seen.parts ∙ behind seen.before window) (All-drop (λ item. is_mark item ≡ false) (length seen.before) left plain)
                where
                  behind : (xs ys : List Item) → drop (length xs) (xs ++ ys) ≡ ys
                  behind [] ys = refl
                  behind (x ∷ xs) ys = behind xs ys

              widest_window : units window ≤ sum_by (width_in facts context) context
              widest_window =
                  subst (λ (xs : List Item). units xs ≤ sum_by (width_in facts context) context) (text_caught content (map (tab_pattern stores) context) [] window catches caught_all)
                  (units_most facts context context catches (all_caught facts count content stores context widths [] context fair.writable.stores [] window catches refl tt window_plain caught_all))

              by_last : (seen.before ≡ []) ⊎ HasLast seen.before → (core_match content rest (first_places kb.version context) [] (last_items (compared_count context) window)).0 ≡ false
              by_last (inl nothing) = absurd (none-some catches (sym is ∙ found))
                where
                  whole : left ≡ window
                  whole = seen.parts ∙ ap (λ (xs : List Item). xs ++ window) nothing

                  size : length left ≡ all_count
                  size = omega (arith, ap length whole, same, count_is, compared_count_is)

                  zero_of : (n m : ℕ) → n ≡ m → n - m ≡ 0
                  zero_of n m e = omega arith

                  equal : (n m : ℕ) → n ≡ m → nat_eq n m ≡ true
                  equal n m e = grind (arith, nat_tests)

                  found : caught_of content (map (tab_pattern stores) context) left ≡ Some catches
                  found =
                      (λ i. if (sym same_tests ∙ tests.1) i && equal (length left) all_count size i then catches_from content [] (map (tab_pattern stores) context) (drop (zero_of (length left) all_count size i) left) else None)
                      ∙ ap (catches_from content [] (map (tab_pattern stores) context)) whole
                      ∙ caught_all
              by_last (inr some) = absurd (too_long (seen.reaches some.front (some.last ∷ window) split few))
                where
                  split : left ≡ some.front ++ (some.last ∷ window)
                  split = seen.parts ∙ ap (λ (xs : List Item). xs ++ window) some.parts ∙ append_assoc some.front (some.last ∷ []) window

                  few : units (some.last ∷ window) + spent ≤ 63
                  few = omega (arith, light some.last (unmarked_at some.front some.last window (subst Unmarked split plain)), widest_window, width_left)

                  too_long : length (some.last ∷ window) ≤ length window → ⊥
                  too_long h = omega (arith, h)

  held_first : (o : Option (List Catch)) → caught_of content (map (tab_pattern stores) context) left ≡ o → HeldAlike facts window context o (core_holds kb content window context)
  held_first None is = none_first is
  held_first (Some catches) is = some_first catches is

-- ---- with a mark that no output puts

unput_caught : (facts : Facts) (whole ps : List Pat) (catches : List Catch) → AreCaught facts whole ps catches → Unmarked (items_in catches) → list_any (asks_unput []) ps ≡ true → ⊥
unput_caught facts whole [] catches all plain some = false_true some
unput_caught facts whole (p ∷ ps) [] all plain some = absurd all
unput_caught facts whole (pattern.Mark m ∷ ps) (c ∷ catches) all plain some = by_item c.item refl all.0.least
  where
    by_item : (o : Option Item) → c.item ≡ o → 3 ≤ units (item_list o) → ⊥
    by_item None is least = omega (arith, least)
    by_item (Some x) is least = omega (arith, least, light x (All-head (λ item. is_mark item ≡ false) x (items_in catches) (subst (λ (o : Option Item). Unmarked (cons_option o (items_in catches))) is plain)))
unput_caught facts whole (p ∷ ps) (c ∷ catches) all plain some = unput_caught facts whole ps catches all.1 (plain_behind c.item plain) some
  where
    plain_behind : (o : Option Item) → Unmarked (cons_option o (items_in catches)) → Unmarked (items_in catches)
    plain_behind None plain = plain
    plain_behind (Some x) plain = All-tail (λ item. is_mark item ≡ false) x (items_in catches) plain

unput_behind : (ps : List Pat) → list_any (asks_unput []) ps ≡ true → list_any (asks_unput []) (behind_nul ps) ≡ true
unput_behind [] some = some
unput_behind (pattern.Nul ∷ ps) some = some
unput_behind (p ∷ ps) some = some

module _ (kb : CoreKeyboard) (facts : Facts) (stores : List Store) (count : ℕ) (content : Content) (widths : HasWidths facts count content) (context : List Pat) (below : All (λ store. store < count) (flat_map stores_of_pattern context)) (some : list_any (asks_unput []) context ≡ true)
    (spent : ℕ) (left window : List Item) (plain : Unmarked left) (seen : Seen spent left window) where
  window_unmarked : Unmarked window
  window_unmarked = subst Unmarked (ap (λ (xs : List Item). drop (length seen.before) xs) seen.parts ∙ behind seen.before window) (All-drop (λ item. is_mark item ≡ false) (length seen.before) left plain)
    where
      behind : (xs ys : List Item) → drop (length xs) (xs ++ ys) ≡ ys
      behind [] ys = refl
      behind (x ∷ xs) ys = behind xs ys

  unput_there : (test : Bool) → (if test then core_match content (behind_nul context) (first_places kb.version context) [] (last_items (compared_count context) window) else (false, [])).0 ≡ false
  unput_there false = refl
  unput_there true =
      unput_fails content (behind_nul context) (unput_behind context some) (last_items (compared_count context) window)
      (All-drop (λ item. is_mark item ≡ false) (length window - compared_count context) window window_unmarked) (first_places kb.version context) []

  pub unput_not_caught : (catches : List Catch) → caught_of content (map (tab_pattern stores) context) left ≡ Some catches → ⊥
  unput_not_caught catches is = unput_caught facts context context catches caught plain_items some
    where
      text : List Item
      text = drop (length left - pattern_count (map (tab_pattern stores) context)) left

      plain_text : Unmarked text
      plain_text = All-drop (λ item. is_mark item ≡ false) (length left - pattern_count (map (tab_pattern stores) context)) left plain

      parts : (list_all (is_true content) (map (tab_pattern stores) context) && has_room (map (tab_pattern stores) context) left ≡ true) × (catches_from content [] (map (tab_pattern stores) context) text ≡ Some catches)
      parts = tested (list_all (is_true content) (map (tab_pattern stores) context) && has_room (map (tab_pattern stores) context) left) (catches_from content [] (map (tab_pattern stores) context) text) catches is

      caught : AreCaught facts context context catches
      caught = all_caught facts count content stores context widths [] context below [] text catches refl tt plain_text parts.1

      plain_items : Unmarked (items_in catches)
      plain_items = subst Unmarked (sym (text_caught content (map (tab_pattern stores) context) [] text catches parts.1)) plain_text

  pub held_unput : (o : Option (List Catch)) → caught_of content (map (tab_pattern stores) context) left ≡ o → HeldAlike facts window context o (core_holds kb content window context)
  held_unput None is = unput_there (has_items context window && list_all (core_condition kb content) context)
  held_unput (Some catches) is = absurd (unput_not_caught catches is)

-- ---- each context

-- a context of a record that can match is fair
abbrev pub IsFairIfMatched : Facts → List Store → (count spent : ℕ) → List Out → List Pat → Type 0
IsFairIfMatched facts stores count spent items context = list_any (asks_unput facts.marks) context ≡ false → IsFairContext facts stores count spent items context

module _ (kb : CoreKeyboard) (facts : Facts) (marks : facts.marks ≡ []) (stores : List Store) (count : ℕ) (content : Content) (widths : HasWidths facts count content)
    (values : HasValues facts.options count stores content) (unset : content Platform ≡ stated_platform)
    (spent : ℕ) (items : List Out) (left window : List Item) (plain : Unmarked left) (seen : Seen spent left window) where
  by_nul : (context : List Pat) → HasNul context → IsFairContext facts stores count spent items context → HeldAlike facts window context (caught_of content (map (tab_pattern stores) context) left) (core_holds kb content window context)
  by_nul context (Without none first) fair = held_without kb facts stores count content widths values unset spent items context fair left window plain seen none first
  by_nul (pattern.Nul ∷ rest) (First none) fair =
      held_first kb facts stores count content widths values unset spent items rest fair left window plain seen none (caught_of content (map (tab_pattern stores) (pattern.Nul ∷ rest)) left) refl

  pub held_alike : (context : List Pat) → All (λ store. store < count) (flat_map stores_of_pattern context) → IsFairIfMatched facts stores count spent items context → HeldAlike facts window context (caught_of content (map (tab_pattern stores) context) left) (core_holds kb content window context)
  held_alike context below fair = by_test (list_any (asks_unput facts.marks) context) refl
    where
      by_test : (b : Bool) → list_any (asks_unput facts.marks) context ≡ b → HeldAlike facts window context (caught_of content (map (tab_pattern stores) context) left) (core_holds kb content window context)
      by_test false told = by_nul context (nul_of context (fair told).late) (fair told)
      by_test true told =
          held_unput kb facts stores count content widths context below (ap (λ (ms : List ℕ). list_any (asks_unput ms) context) (sym marks) ∙ told) spent left window plain seen
          (caught_of content (map (tab_pattern stores) context) left) refl

-- Contexts of which nothing is reported: each item is compared in the same way, and each condition is tried in the same way.
use Rattle.std.specs.Prelude.{◌≡◌, ℕ, zero, suc, ◌+◌, ◌-◌, ◌<◌, Bool, true, false, not, ◌&&◌, ◌||◌, nat_eq, cond, List, [], ◌∷◌, ◌++◌, length, take, flat_map, count_by, slice_get, slice_index_or, IsSomeAnd, Option, Some, None}
use Rattle.std.specs.Option.{option_map_or}
use Rattle.std.specs.List.{All, list_all, list_any}
use Rattle.std.proofs.Common.{refl, sym, ap, ◌∙◌, arith, get_or, append_assoc, length-append}
use Rattle.std.proofs.Math.Path.{subst}
use Rattle.std.proofs.Math.Seq.{take-append_seam}
use Rattle.std.proofs.lemmas.Bool.{or_parts}
use Rattle.std.proofs.lemmas.Bool.Decides.{nat_tests}
use Rattle.std.proofs.lemmas.List.Elements.{All-head, All-tail}
use Rattle.std.proofs.lemmas.List.Sums.{sum_by-cons}
use Rattle.kmn_base.specs.declared.items.Element.{Element}
use Rattle.kmn_base.specs.Rising.{is_among}
use Rattle.rule_model.specs.declared.tables.Pat.{Pat}
use Rattle.rule_model.specs.declared.tables.Pat.TheVariants as pattern
use Rattle.rule_model.specs.declared.tables.Out.{Out}
use Rattle.rule_model.specs.declared.tables.Store.{Store}
use Rattle.rule_model.specs.declared.system.TheConstants.{LAYER, PLATFORM}
use Rattle.rule_model.specs.Keyboard.{Platform}
use Rattle.rule_model.specs.Match.{Content}
use Rattle.rule_model.specs.Patterns.{is_matched, is_nul}
use Rattle.rule_model.specs.System.{is_space}
use Rattle.rule_model.specs.Tab.{elements_of}
use Rattle.kmx_format.specs.Writable.{has_system_id, is_any, stores_of_pattern, PointsTo, PointsBack}
use Rattle.core_meaning.specs.Contexts.{has_empty_word}
use Rattle.core_meaning.specs.ContextLaws.{IsAnyItem, NamesAny, is_compared, NamesCompared, IsAlike, AreAlike, stated_platform, HasItsElements, IsOnPlatform, IsTriedAlike, AreTriedAlike}
use Rattle.core_constructs.specs.Contexts.{asks_empty_word, asks_from_option, asks_layer, counts_differently, has_offset, is_moved_output, is_moved_pattern, is_unmatched, puts_by_offset, unmatched_before}
use Rattle.core_constructs.specs.Contexts as told

true_false : true ≡ false → ⊥
true_false e = grind arith

false_true : false ≡ true → ⊥
false_true e = grind arith

-- ---- offsets

-- what is not counted differently
pub record CountsAlike (context : List Pat) (items : List Out) : Type 0 where
  pub patterns : list_any (is_moved_pattern context) context ≡ false
  pub outputs : list_any (is_moved_output context) items ≡ false
  pub first : (told.begins_with_nul context && (list_any has_offset context || list_any puts_by_offset items)) ≡ false

pub counts_alike : (context : List Pat) (items : List Out) → counts_differently context items ≡ false → CountsAlike context items
unfolding counts_differently
counts_alike context items same =
    let parts = or_parts (list_any (is_moved_pattern context) context || list_any (is_moved_output context) items) (told.begins_with_nul context && (list_any has_offset context || list_any puts_by_offset items)) same in
    let moved = or_parts (list_any (is_moved_pattern context) context) (list_any (is_moved_output context) items) parts.0 in
    record { patterns = moved.0; outputs = moved.1; first = parts.1 }

at_seam : (others : List Pat) (p : Pat) (ps : List Pat) (d : Pat) → get_or (others ++ p ∷ ps) (length others) d ≡ p
at_seam [] p ps d = refl
at_seam (q ∷ others) p ps d = at_seam others p ps d

-- an `any` at a place
any_at : (o : Option Pat) → IsSomeAnd o (λ p. is_any p ≡ true) → IsAnyItem o
any_at None some = absurd some
any_at (Some (pattern.Any s)) some = tt
any_at (Some (pattern.Char c)) some = absurd (false_true some)
any_at (Some (pattern.Mark m)) some = absurd (false_true some)
any_at (Some (pattern.NotAny s)) some = absurd (false_true some)
any_at (Some (pattern.Index s k)) some = absurd (false_true some)
any_at (Some (pattern.ContextAt k)) some = absurd (false_true some)
any_at (Some (pattern.Equal s v)) some = absurd (false_true some)
any_at (Some (pattern.Unequal s v)) some = absurd (false_true some)
any_at (Some (pattern.SystemEqual s v)) some = absurd (false_true some)
any_at (Some (pattern.SystemUnequal s v)) some = absurd (false_true some)
any_at (Some pattern.Nul) some = absurd (false_true some)

pub names_any : (others : List Pat) (offset : ℕ) → PointsTo is_any others offset → NamesAny others offset
names_any others zero points = absurd points
names_any others (suc before) points = any_at (slice_get others before) points

is_compared_item : (p : Pat) → is_matched p ≡ true → is_compared p ≡ true
is_compared_item (pattern.Any s) matched = refl
is_compared_item (pattern.Char c) matched = refl
is_compared_item (pattern.Mark m) matched = refl
is_compared_item (pattern.NotAny s) matched = refl
is_compared_item (pattern.Index s k) matched = refl
is_compared_item (pattern.ContextAt k) matched = refl
is_compared_item (pattern.Equal s v) matched = absurd (false_true matched)
is_compared_item (pattern.Unequal s v) matched = absurd (false_true matched)
is_compared_item (pattern.SystemEqual s v) matched = absurd (false_true matched)
is_compared_item (pattern.SystemUnequal s v) matched = absurd (false_true matched)
is_compared_item pattern.Nul matched = absurd (false_true matched)

-- if an item is matched and no item before it is not, all up to it are compared
compared_up_to : (others ps : List Pat) (before : ℕ) → IsSomeAnd (slice_get others before) (λ p. is_matched p ≡ true) → count_by is_unmatched (take before (others ++ ps)) ≡ 0
    → (before < length others) × (list_all is_compared (take (suc before) others) ≡ true)
compared_up_to [] ps before some none = absurd some
compared_up_to (p ∷ others) ps zero some none = (omega arith, λ i. is_compared_item p some i && true)
compared_up_to (p ∷ others) ps (suc before) some none =
    let rest = compared_up_to others ps before some none_behind in
    (omega (arith, rest.0), λ i. is_compared_item p matched i && rest.1 i)
  where
    count : count_by is_unmatched (take (suc before) ((p ∷ others) ++ ps)) ≡ cond (is_unmatched p) 1 0 + count_by is_unmatched (take before (others ++ ps))
    count = sum_by-cons (λ (q : Pat). cond (is_unmatched q) 1 0) p (take before (others ++ ps))

    none_behind : count_by is_unmatched (take before (others ++ ps)) ≡ 0
    none_behind = omega (arith, count, none)

    by_test : (b : Bool) → ◌≡◌ {A = ℕ} (cond (not b) 1 0) 0 → b ≡ true
    by_test true e = refl
    by_test false e = absurd (one_none e)
      where
        one_none : ◌≡◌ {A = ℕ} 1 0 → ⊥
        one_none e = omega arith

    matched : is_matched p ≡ true
    matched = by_test (is_matched p) (omega (arith, count, none))

names_compared : (others ps : List Pat) (offset : ℕ) → PointsTo is_matched others offset → is_moved_pattern (others ++ ps) (pattern.ContextAt offset) ≡ false → NamesCompared others offset
names_compared others ps zero points unmoved = absurd points
names_compared others ps (suc before) points unmoved = compared_up_to others ps before points none
  where
    by_test : (n : ℕ) → not (nat_eq n 0) ≡ false → n ≡ 0
    by_test n e = grind (arith, nat_tests)

    index : suc before - 1 ≡ before
    index = omega arith

    none : count_by is_unmatched (take before (others ++ ps)) ≡ 0
    none = ap (λ (n : ℕ). count_by is_unmatched (take n (others ++ ps))) (sym index) ∙ by_test (unmatched_before (others ++ ps) (suc before)) unmoved

-- each item of a context without `nul` is compared in the same way
module _ (whole : List Pat) (points : (place : ℕ) (d : Pat) → place < length whole → PointsBack (take place whole) (slice_index_or whole place d)) where
  points_here : (others : List Pat) (p : Pat) (ps : List Pat) → others ++ (p ∷ ps) ≡ whole → PointsBack others p
  points_here others p ps parts =
      subst (λ (q : Pat). PointsBack others q) (ap (λ (xs : List Pat). get_or xs (length others) p) (sym parts) ∙ at_seam others p ps p)
      (subst (λ (xs : List Pat). PointsBack xs (get_or whole (length others) p)) (ap (take (length others)) (sym parts) ∙ take-append_seam others (p ∷ ps))
      (points (length others) p (omega (arith, ap length parts, length-append others (p ∷ ps)))))

  alike_item : (others : List Pat) (p : Pat) (ps : List Pat) → others ++ (p ∷ ps) ≡ whole → is_nul p ≡ false → is_moved_pattern whole p ≡ false → PointsBack others p → IsAlike others p
  alike_item others (pattern.Index s k) ps parts other unmoved back = names_any others k back
  alike_item others (pattern.ContextAt k) ps parts other unmoved back = names_compared others (pattern.ContextAt k ∷ ps) k back (ap (λ (xs : List Pat). is_moved_pattern xs (pattern.ContextAt k)) parts ∙ unmoved)
  alike_item others pattern.Nul ps parts other unmoved back = absurd (true_false other)
  alike_item others (pattern.Char c) ps parts other unmoved back = tt
  alike_item others (pattern.Mark m) ps parts other unmoved back = tt
  alike_item others (pattern.Any s) ps parts other unmoved back = tt
  alike_item others (pattern.NotAny s) ps parts other unmoved back = tt
  alike_item others (pattern.Equal s v) ps parts other unmoved back = tt
  alike_item others (pattern.Unequal s v) ps parts other unmoved back = tt
  alike_item others (pattern.SystemEqual s v) ps parts other unmoved back = tt
  alike_item others (pattern.SystemUnequal s v) ps parts other unmoved back = tt

  pub all_alike : (others ps : List Pat) → others ++ ps ≡ whole → list_any is_nul ps ≡ false → list_any (is_moved_pattern whole) ps ≡ false → AreAlike others ps
  all_alike others [] parts none unmoved = tt
  all_alike others (p ∷ ps) parts none unmoved =
      let here = or_parts (is_nul p) (list_any is_nul ps) none in
      let moved = or_parts (is_moved_pattern whole p) (list_any (is_moved_pattern whole) ps) unmoved in
      (alike_item others p ps parts here.0 moved.0 (points_here others p ps parts), all_alike (others ++ p ∷ []) ps (append_assoc others (p ∷ []) ps ∙ parts) here.1 moved.1)

-- ---- conditions

-- both tests of an empty word agree where the second finds none
same_blanks : (value : List Element) → told.has_empty_word value ≡ false → has_empty_word value ≡ false
same_blanks [] none = absurd (true_false none)
same_blanks (v ∷ vs) none = λ i. some i || parts.0 i || last_space (slice_get (v ∷ vs) (length (v ∷ vs) - 1)) parts.1 i
  where
    some : nat_eq (length (v ∷ vs)) 0 ≡ false
    some = grind (arith, nat_tests)

    parts : (is_space v ≡ false) × (told.is_blank (slice_get (v ∷ vs) (length (v ∷ vs) - 1)) ≡ false)
    parts = or_parts (is_space v) (told.is_blank (slice_get (v ∷ vs) (length (v ∷ vs) - 1))) none

    last_space : (o : Option Element) → told.is_blank o ≡ false → option_map_or is_space o false ≡ false
    last_space None blank = absurd (true_false blank)
    last_space (Some e) blank = blank

-- each store that is not an option has the elements of the file
abbrev pub HasValues : List ℕ → ℕ → List Store → Content → Type 0
HasValues options count stores content = (value : ℕ) → is_among value options ≡ false → value < count → HasItsElements content stores value

module _ (options : List ℕ) (count : ℕ) (stores : List Store) (content : Content) (values : HasValues options count stores content) (unset : content Platform ≡ stated_platform) where
  platform_id : (id : ℕ) → (nat_eq id PLATFORM || nat_eq id LAYER) ≡ true → nat_eq id LAYER ≡ false → id ≡ PLATFORM
  platform_id id known other = by_tests (nat_eq id PLATFORM) refl
    where
      by_tests : (b : Bool) → nat_eq id PLATFORM ≡ b → id ≡ PLATFORM
      by_tests true is = grind (arith, nat_tests)
      by_tests false is = absurd (false_true (sym (λ i. is i || other i) ∙ known))

  on_platform : (id value : ℕ) → (nat_eq id PLATFORM || nat_eq id LAYER) ≡ true → nat_eq id LAYER ≡ false → (nat_eq id PLATFORM && told.has_empty_word (elements_of stores value)) ≡ false → is_among value options ≡ false → value < count
      → IsOnPlatform content stores id value
  on_platform id value known other words alone below =
      let is : id ≡ PLATFORM = platform_id id known other in
      record {
        platform = is;
        unset = unset;
        elements = values value alone below;
        words = same_blanks (elements_of stores value) (by_id (nat_eq id PLATFORM) (is_id is) words);
      }
    where
      is_id : id ≡ PLATFORM → nat_eq id PLATFORM ≡ true
      is_id e = grind (arith, nat_tests)

      by_id : (b : Bool) → b ≡ true → (b && told.has_empty_word (elements_of stores value)) ≡ false → told.has_empty_word (elements_of stores value) ≡ false
      by_id true told none = none
      by_id false told none = absurd (false_true told)

  tried_item : (p : Pat) (rest : List ℕ) → asks_from_option options p ≡ false → asks_layer p ≡ false → asks_empty_word stores p ≡ false → has_system_id p ≡ true → All (λ store. store < count) (stores_of_pattern p ++ rest) → IsTriedAlike content stores p
  tried_item (pattern.Equal s v) rest alone layer words known below = values v alone (All-head (λ store. store < count) v rest (All-tail (λ store. store < count) s (v ∷ rest) below))
  tried_item (pattern.Unequal s v) rest alone layer words known below = values v alone (All-head (λ store. store < count) v rest (All-tail (λ store. store < count) s (v ∷ rest) below))
  tried_item (pattern.SystemEqual id v) rest alone layer words known below = on_platform id v known layer words alone (All-head (λ store. store < count) v rest below)
  tried_item (pattern.SystemUnequal id v) rest alone layer words known below = on_platform id v known layer words alone (All-head (λ store. store < count) v rest below)
  tried_item (pattern.Char c) rest alone layer words known below = tt
  tried_item (pattern.Mark m) rest alone layer words known below = tt
  tried_item (pattern.Any s) rest alone layer words known below = tt
  tried_item (pattern.NotAny s) rest alone layer words known below = tt
  tried_item (pattern.Index s k) rest alone layer words known below = tt
  tried_item (pattern.ContextAt k) rest alone layer words known below = tt
  tried_item pattern.Nul rest alone layer words known below = tt

  rest_below : (ns ms : List ℕ) → All (λ store. store < count) (ns ++ ms) → All (λ store. store < count) ms
  rest_below [] ms below = below
  rest_below (n ∷ ns) ms below = rest_below ns ms (All-tail (λ store. store < count) n (ns ++ ms) below)

  pub all_tried : (ps : List Pat) → list_any (asks_from_option options) ps ≡ false → list_any asks_layer ps ≡ false → list_any (asks_empty_word stores) ps ≡ false
      → All (λ p. has_system_id p ≡ true) ps → All (λ store. store < count) (flat_map stores_of_pattern ps) → AreTriedAlike content stores ps
  all_tried [] alone layer words known below = tt
  all_tried (p ∷ ps) alone layer words known below =
      let one = or_parts (asks_from_option options p) (list_any (asks_from_option options) ps) alone in
      let two = or_parts (asks_layer p) (list_any asks_layer ps) layer in
      let three = or_parts (asks_empty_word stores p) (list_any (asks_empty_word stores) ps) words in (
        tried_item p (flat_map stores_of_pattern ps) one.0 two.0 three.0 (All-head (λ p. has_system_id p ≡ true) p ps known) below,
        all_tried ps one.1 two.1 three.1 (All-tail (λ p. has_system_id p ≡ true) p ps known) (rest_below (stores_of_pattern p) (flat_map stores_of_pattern ps) below),
      )

-- If tables have no cause, their items can be written.
use Rattle.std.proofs.Common.{◌≡◌, ℕ, zero, suc, ◌+◌, ◌^◌, ◌<◌, ◌≤◌, Bool, true, false, not, ◌&&◌, ◌||◌, List, [], ◌∷◌, length, map, None, refl, ◌∙◌, arith, if◌then◌else◌}
use Rattle.std.specs.Prelude.{All, ◌≢◌, nat_eq, bit_and, filter, filter_map}
use Rattle.std.specs.List.{list_any, list_all, AllByRecursion, range_with_len}
use Rattle.std.specs.Fmt.{decimal}
use Rattle.std.proofs.lemmas.Bool.{or_parts, and_parts, eqb-true, eqb-false, not-false, and_right, not-true, cond-false, or_from, and_left}
use Rattle.std.proofs.lemmas.Bool.Decides.{nat_tests}
use Rattle.std.proofs.lemmas.List.Elements.{All-nil, All-cons, All-head, All-tail}
use lib.Utf8.{scalar}
use Rattle.kmn_base.specs.declared.keys.TheConstants.{SHIFT_FLAGS}
use Rattle.kmn_base.specs.declared.limits.TheConstants.{DEADKEYS}
use Rattle.kmn_base.specs.declared.items.Element.{Element}
use Rattle.kmn_base.specs.declared.items.Element.TheVariants as element
use Rattle.kmn_base.specs.declared.keys.RuleKey.{RuleKey}
use Rattle.kmn_base.specs.declared.keys.RuleKey.TheVariants as key
use Rattle.kmn_base.specs.declared.units.TheConstants.{SENTINEL}
use Rattle.kmn_base.specs.Spelling.{IsSpellable, is_forbidden}
use Rattle.virtual_keys.specs.Dictionary.{is_nameable}
use Rattle.kmn_items.specs.declared.syntax.Seen.{Seen}
use Rattle.kmn_items.specs.declared.syntax.Where.TheVariants as section
use Rattle.kmn_items.specs.declared.syntax.ItemWord.{ItemWord}
use Rattle.kmn_items.specs.declared.syntax.ItemWord.TheVariants as item
use Rattle.kmn_items.specs.Item.{unseen}
use Rattle.kmn_items.specs.Standing.{is_condition, order_code}
use Rattle.kmn_items.specs.Standing.{is_nul as is_nul_word}
use Rattle.kmn_parser.specs.ProgramLaws.{IsCharacter}
use Rattle.rule_model.specs.declared.program.SrcItem.TheVariants as source
use Rattle.rule_model.specs.declared.tables.Pat.{Pat}
use Rattle.rule_model.specs.declared.tables.Pat.TheVariants as pattern
use Rattle.rule_model.specs.declared.tables.Out.{Out}
use Rattle.rule_model.specs.declared.tables.Out.TheVariants as output
use Rattle.rule_model.specs.declared.tables.Store.{Store}
use Rattle.rule_model.specs.Tab.{elements_of, element_char}
use Rattle.kmx_format.specs.FileUnits.{unit_item_of_element}
use Rattle.kmx_format.specs.Playable.{IsPlayableStore}
use Rattle.kmx_format.specs.Writable.{IsWritableKey}
use Rattle.kmn_parser.specs.Names.{is_inner}
use Rattle.kmn_parser.specs.Spelled.{IsSpelledName, IsSpelledValue, IsSpelledItem, AreSpelled, IsSpelledAsKey, item_lead, seen_lead}
use Rattle.decompile_program.specs.Items.{Names, back_element, back_pattern, back_output, back_key, some_items}
use Rattle.decompile_program.specs.WrittenOut.{has_key_name}
use Rattle.item_checker.specs.Items.{is_no_character}
use Rattle.kmx_decompiler.specs.Causes.{is_far_mark, is_unspelled_element, is_unspelled_key, is_unspelled_value, have_both_quotes, stands_behind_match}
use Rattle.rule_model.specs.Patterns.{is_nul}
use Rattle.kmx_decompiler.proofs.TameNames.{number_name}
use Rattle.kmx_decompiler.proofs.SpelledKeys.{IsKeyName, key_spelled}

near-mark : (m : ℕ) → is_far_mark m ≡ false → m < 10 ^ 9
near-mark m h = let near : m ≤ DEADKEYS = (grind (arith, nat_tests, h)) in omega arith

pub mark_name : (m : ℕ) → is_far_mark m ≡ false → IsSpelledName (decimal m)
mark_name m h = (number_name m (near-mark m h)).named

-- a scalar value that is not zero and not the sentinel is a character of a keyboard
pub character : (c : ℕ) → (scalar c ≡ true) × (c ≢ 0) × (c ≢ SENTINEL) → IsCharacter c
character c h = record { valid = h.0; not_first = h.1; not_last = h.2 }

pub unit_character : (c : ℕ) → is_nameable c ≡ true → IsCharacter c
unit_character c h =
    let both = and_parts (scalar c) (not (is_forbidden c)) h in
    let neither = or_parts (nat_eq c 0) (nat_eq c SENTINEL) (not-true (is_forbidden c) both.1) in
    record { valid = both.0; not_first = eqb-false c 0 neither.0; not_last = eqb-false c SENTINEL neither.1 }

module _ (names : Names) (keys : All IsKeyName names.keys) where
  -- if the elements of a store have spellings, they can be written in a store
  pub elements_spelled : (seen : Seen) (es : List Element) → list_any (is_unspelled_element names) es ≡ false → All (λ e. IsSpellable (unit_item_of_element e)) es
      → AreSpelled section.Store seen (map (back_element names) es)
  elements_spelled seen [] h s = tt
  elements_spelled seen (element.Char c ∷ es) h s = (
    character c (All-head (λ e. IsSpellable (unit_item_of_element e)) (element.Char c) es s),
    refl,
    elements_spelled (seen_lead seen (item_lead (back_element names (element.Char c)))) es
        (or_parts (is_unspelled_element names (element.Char c)) (list_any (is_unspelled_element names) es) h).1 (All-tail (λ e. IsSpellable (unit_item_of_element e)) (element.Char c) es s),
  )
  elements_spelled seen (element.Mark m ∷ es) h s =
      let parts = or_parts (is_unspelled_element names (element.Mark m)) (list_any (is_unspelled_element names) es) h in (
        mark_name m parts.0,
        refl,
        elements_spelled (seen_lead seen (item_lead (back_element names (element.Mark m)))) es parts.1 (All-tail (λ e. IsSpellable (unit_item_of_element e)) (element.Mark m) es s),
      )
  elements_spelled seen (element.Key flags code ∷ es) h s =
      let parts = or_parts (is_unspelled_element names (element.Key flags code)) (list_any (is_unspelled_element names) es) h in
      let both = or_parts (not (has_key_name names.keys code)) (not (nat_eq (bit_and flags SHIFT_FLAGS) flags)) parts.0 in (
        (refl, key_spelled names flags code keys (not-false (has_key_name names.keys code) both.0) (eqb-true (bit_and flags SHIFT_FLAGS) flags (not-false (nat_eq (bit_and flags SHIFT_FLAGS) flags) both.1))),
        refl,
        elements_spelled (seen_lead seen (item_lead (back_element names (element.Key flags code)))) es parts.1 (All-tail (λ e. IsSpellable (unit_item_of_element e)) (element.Key flags code) es s),
      )

  -- if the key of a record has a spelling, it can be written as a key
  pub key_as_spelled : (using_keys : Bool) (k : RuleKey) → IsWritableKey using_keys k → is_unspelled_key names k ≡ false → IsSpelledAsKey using_keys (back_key names k)
  key_as_spelled true key.Any can h = absurd can
  key_as_spelled true (key.Char unit) can h = (unit_character unit (not-false (is_nameable unit) h), refl, tt)
  key_as_spelled true (key.Virtual flags code) can h = ((refl, key_spelled names flags code keys (not-false (has_key_name names.keys code) h) can.1), refl, tt)
  key_as_spelled false key.Any can h = tt
  key_as_spelled false (key.Char unit) can h = absurd can
  key_as_spelled false (key.Virtual flags code) can h = absurd can

-- deadkeys from a number on can be written in a store if their numbers have at most nine digits
pub marks_spelled : (seen : Seen) (from count : ℕ) → from + count ≤ 10 ^ 9 → AreSpelled section.Store seen (map (λ m. source.Dead (decimal m)) (range_with_len from count))
marks_spelled seen from zero h = tt
marks_spelled seen from (suc count) h =
    ((number_name from (omega arith)).named, refl, marks_spelled (seen_lead seen (item_lead (source.Dead (decimal from)))) (from + 1) count (omega arith))

-- values
pub value-characters : (es : List Element) → All (λ e. IsSpellable (unit_item_of_element e)) es → All IsCharacter (filter_map element_char es)
value-characters [] s = All-nil IsCharacter
value-characters (element.Char c ∷ es) s =
    All-cons IsCharacter c (filter_map element_char es) (character c (All-head (λ e. IsSpellable (unit_item_of_element e)) (element.Char c) es s))
    (value-characters es (All-tail (λ e. IsSpellable (unit_item_of_element e)) (element.Char c) es s))
value-characters (element.Mark m ∷ es) s = value-characters es (All-tail (λ e. IsSpellable (unit_item_of_element e)) (element.Mark m) es s)
value-characters (element.Key flags code ∷ es) s = value-characters es (All-tail (λ e. IsSpellable (unit_item_of_element e)) (element.Key flags code) es s)

store-characters : (stores : List Store) (n : ℕ) → All IsPlayableStore stores → All IsCharacter (filter_map element_char (elements_of stores n))
store-characters [] n s = All-nil IsCharacter
store-characters (x ∷ stores) zero s = value-characters x.elements (All-head IsPlayableStore x stores s).elements
store-characters (x ∷ stores) (suc n) s = store-characters stores n (All-tail IsPlayableStore x stores s)

pub value_spelled : (stores : List Store) (n : ℕ) → All IsPlayableStore stores → is_unspelled_value (elements_of stores n) ≡ false → IsSpelledValue (filter_map element_char (elements_of stores n))
value_spelled stores n s h =
    let characters : List ℕ = filter_map element_char (elements_of stores n) in
    let one = or_parts (list_any is_no_character (elements_of stores n)) (not (list_all is_inner characters) || have_both_quotes characters) h in
    let two = or_parts (not (list_all is_inner characters)) (have_both_quotes characters) one.1 in
    record { characters = store-characters stores n s; in_line = not-false (list_all is_inner characters) two.0; one_quote = two.1 }

-- the order of a context's items
abbrev seen_as : Bool → Bool → Seen
seen_as p n = record { pattern = p; nul = n }

order-matched : (p n : Bool) (word : ItemWord) → is_nul_word word ≡ false → is_condition word ≡ false → order_code (seen_as p n) word ≡ None
order-matched p n word a b =
    cond-false (p && (is_nul_word word || is_condition word)) _ _ (and_right p (is_nul_word word || is_condition word) (or_from (is_nul_word word) (is_condition word) a b))
    ∙ cond-false (n && is_nul_word word) _ _ (and_right n (is_nul_word word) a)

order-condition : (p n : Bool) → p ≡ false → order_code (seen_as p n) item.If ≡ None
order-condition p n e =
    cond-false (p && (is_nul_word item.If || is_condition item.If)) _ _ (and_left p (is_nul_word item.If || is_condition item.If) e)
    ∙ cond-false (n && is_nul_word item.If) _ _ (and_right n (is_nul_word item.If) refl)

order-nul : (p n : Bool) → p ≡ false → n ≡ false → order_code (seen_as p n) item.Nul ≡ None
order-nul p n e f =
    cond-false (p && (is_nul_word item.Nul || is_condition item.Nul)) _ _ (and_left p (is_nul_word item.Nul || is_condition item.Nul) e)
    ∙ cond-false (n && is_nul_word item.Nul) _ _ (and_left n (is_nul_word item.Nul) f)

behind-matched : (p : Bool) (context : List Pat) → ((p && false) || stands_behind_match (p || true) context) ≡ false → stands_behind_match true context ≡ false
behind-matched true context h = h
behind-matched false context h = h

behind-other : (p : Bool) (context : List Pat) → ((p && true) || stands_behind_match (p || false) context) ≡ false → (p ≡ false) × (stands_behind_match p context ≡ false)
behind-other true context h = absurd (cc)
behind-other false context h = (refl, h)

abbrev one_if : Bool → ℕ
one_if b = if b then 1 else 0

no-nul : (n : Bool) (count : ℕ) → one_if n + suc count ≤ 1 → (n ≡ false) × (one_if true + count ≤ 1)
no-nul true count h = absurd (omega arith)
no-nul false count h = (refl, omega arith)

module _ (names : Names) where
  abbrev pub IsSpelledPattern : Pat → Type 0
  IsSpelledPattern p = IsSpelledItem section.Context (back_pattern names p)

  pub context_spelled : (p n : Bool) (context : List Pat) → AllByRecursion IsSpelledPattern context → stands_behind_match p context ≡ false → one_if n + length (filter is_nul context) ≤ 1
      → AreSpelled section.Context (seen_as p n) (map (back_pattern names) context)
  context_spelled p n [] e h k = tt
  context_spelled p n (pattern.Char c ∷ context) e h k =
      (e.0, refl, context_spelled (p || true) n context e.1 (or_parts (p && false) (stands_behind_match (p || true) context) h).1 k)
  context_spelled p n (pattern.Mark m ∷ context) e h k = (e.0, order-matched p n item.Dead refl refl, context_spelled true n context e.1 (behind-matched p context h) k)
  context_spelled p n (pattern.Any s ∷ context) e h k = (e.0, order-matched p n item.Any refl refl, context_spelled true n context e.1 (behind-matched p context h) k)
  context_spelled p n (pattern.NotAny s ∷ context) e h k = (e.0, order-matched p n item.NotAny refl refl, context_spelled true n context e.1 (behind-matched p context h) k)
  context_spelled p n (pattern.Index s offset ∷ context) e h k = (e.0, order-matched p n item.Index refl refl, context_spelled true n context e.1 (behind-matched p context h) k)
  context_spelled p n (pattern.ContextAt offset ∷ context) e h k = (e.0, order-matched p n item.ContextAt refl refl, context_spelled true n context e.1 (behind-matched p context h) k)
  context_spelled p n (pattern.Equal s value ∷ context) e h k =
      let other = behind-other p context h in (e.0, order-condition p n other.0, context_spelled p n context e.1 other.1 k)
  context_spelled p n (pattern.Unequal s value ∷ context) e h k =
      let other = behind-other p context h in (e.0, order-condition p n other.0, context_spelled p n context e.1 other.1 k)
  context_spelled p n (pattern.SystemEqual id value ∷ context) e h k =
      let other = behind-other p context h in (e.0, order-condition p n other.0, context_spelled p n context e.1 other.1 k)
  context_spelled p n (pattern.SystemUnequal id value ∷ context) e h k =
      let other = behind-other p context h in (e.0, order-condition p n other.0, context_spelled p n context e.1 other.1 k)
  context_spelled p n (pattern.Nul ∷ context) e h k =
      let other = behind-other p context h in
      let first = no-nul n (length (filter is_nul context)) k in
      (e.0, order-nul p n other.0 first.0, context_spelled p true context e.1 other.1 first.1)

  abbrev pub IsSpelledOutput : Out → Type 0
  IsSpelledOutput o = IsSpelledItem section.Output (back_output names o)

  pub output_spelled : (seen : Seen) (os : List Out) → AllByRecursion IsSpelledOutput os → AreSpelled section.Output seen (map (back_output names) os)
  output_spelled seen [] e = tt
  output_spelled seen (output.Char c ∷ os) e = (e.0, refl, output_spelled _ os e.1)
  output_spelled seen (output.Mark m ∷ os) e = (e.0, refl, output_spelled _ os e.1)
  output_spelled seen (output.Index s offset ∷ os) e = (e.0, refl, output_spelled _ os e.1)
  output_spelled seen (output.Context ∷ os) e = (e.0, refl, output_spelled _ os e.1)
  output_spelled seen (output.ContextAt offset ∷ os) e = (e.0, refl, output_spelled _ os e.1)
  output_spelled seen (output.Enter g ∷ os) e = (e.0, refl, output_spelled _ os e.1)
  output_spelled seen (output.Set s value ∷ os) e = (e.0, refl, output_spelled _ os e.1)
  output_spelled seen (output.SetSystem id value ∷ os) e = (e.0, refl, output_spelled _ os e.1)
  output_spelled seen (output.Save s ∷ os) e = (e.0, refl, output_spelled _ os e.1)
  output_spelled seen (output.Reset s ∷ os) e = (e.0, refl, output_spelled _ os e.1)
  output_spelled seen (output.Nul ∷ os) e = (e.0, refl, output_spelled _ os e.1)
  output_spelled seen (output.Beep ∷ os) e = (e.0, refl, output_spelled _ os e.1)
  output_spelled seen (output.Stop ∷ os) e = (e.0, refl, output_spelled _ os e.1)

  pub some_spelled : (os : List Out) → AllByRecursion IsSpelledOutput os → AreSpelled section.Output unseen (some_items (map (back_output names) os)) × (1 ≤ length (some_items (map (back_output names) os)))
  some_spelled [] e = ((tt, refl, tt), omega arith)
  some_spelled (o ∷ os) e = (output_spelled unseen (o ∷ os) e, omega arith)

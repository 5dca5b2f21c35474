-- Reading the contents of a file's strings - elements, contexts, outputs and names - returns the written ones.
use Rattle.std.proofs.Common.{◌≡◌, ◌≢◌, ℕ, ◌+◌, ◌-◌, ◌/◌, ◌%◌, ◌<◌, ◌≤◌, true, List, [], ◌∷◌, ◌++◌, get_or, map, Option, Some, refl, ap, ap₂, ◌∙◌, arith, inl, inr, ◌⊎◌, add-sub_cancel}
use Rattle.std.specs.List.{All, flat_map, filter_map}
use Rattle.std.specs.Option.{unwrap_or}
use Rattle.std.specs.Str.{chars, encode_utf8_all}
use Rattle.std.specs.Char.{IsScalar}
use Rattle.std.specs.Char.Utf16.{utf16_chars, utf16_lossy_chars, lone_unit_char, surrogate_pair_char}
use Rattle.std.proofs.str.Utf16.{IsPair, lone_unit_char_low, lone_unit_char_high}
use Rattle.std.proofs.lemmas.List.Elements.{All-head, All-tail, All-nil, All-append, All-map}
use Rattle.std.proofs.lemmas.Bool.{cases_lt, and_parts}
use Rattle.std.proofs.lemmas.Str.{encodes-chars, scalars-chars, utf16_chars-nil, utf16_chars_lone, utf16_chars_pair}
use lib.Utf8.{scalar, scalar_cases, scalars}
use Rattle.kmn_base.specs.declared.items.Element.{Element}
use Rattle.kmn_base.specs.declared.items.Element.TheVariants as element
use Rattle.kmn_base.specs.declared.units.UnitItem.{UnitItem}
use Rattle.kmn_base.specs.Spelling.{char_units, IsSpellable}
use Rattle.rule_model.specs.declared.tables.Pat.{Pat}
use Rattle.rule_model.specs.declared.tables.Pat.TheVariants as pattern
use Rattle.rule_model.specs.declared.tables.Out.{Out}
use Rattle.rule_model.specs.declared.tables.Out.TheVariants as output
use Rattle.kmx_format.specs.FileUnits.{unit_item_of_element, unit_item_of_pattern, unit_item_of_output, item_units, element_units, pattern_units, output_units, name_units}
use Rattle.kmx_format.specs.File.{string, offset_of}
use Rattle.kmx_format.specs.TablesOf.{element_of_unit_item, pattern_of_unit_item, output_of_unit_item, string_at, items_of, name_at, elements_at, patterns_at, outputs_at}
use Rattle.kmx_format.specs.Writable.{IsWritableName}
use Rattle.kmx_format.proofs.FileStands.{StandsAt}
use Rattle.kmx_format.proofs.FileStrings.{string_at-stands}
use Rattle.kmx_format.proofs.FileItems.{char_units_low, char_units_high, char_units-nonzero, item_units-nonzero, items_of-item_units}

-- ---- reading unit items

element_again : (e : Element) → element_of_unit_item (unit_item_of_element e) ≡ Some e
element_again (element.Char c) = refl
element_again (element.Mark mark) = refl
element_again (element.Key flags code) = refl

pattern_again : (p : Pat) → pattern_of_unit_item (unit_item_of_pattern p) ≡ Some p
pattern_again (pattern.Char c) = refl
pattern_again (pattern.Mark mark) = refl
pattern_again (pattern.Any store) = ap (λ s. Some (pattern.Any s)) (add-sub_cancel store 1)
pattern_again (pattern.NotAny store) = ap (λ s. Some (pattern.NotAny s)) (add-sub_cancel store 1)
pattern_again (pattern.Index store offset) = ap (λ s. Some (pattern.Index s offset)) (add-sub_cancel store 1)
pattern_again (pattern.ContextAt offset) = refl
pattern_again (pattern.Equal store value) = ap₂ (λ s v. Some (pattern.Equal s v)) (add-sub_cancel store 1) (add-sub_cancel value 1)
pattern_again (pattern.Unequal store value) = ap₂ (λ s v. Some (pattern.Unequal s v)) (add-sub_cancel store 1) (add-sub_cancel value 1)
pattern_again (pattern.SystemEqual id value) = ap₂ (λ s v. Some (pattern.SystemEqual s v)) (add-sub_cancel id 1) (add-sub_cancel value 1)
pattern_again (pattern.SystemUnequal id value) = ap₂ (λ s v. Some (pattern.SystemUnequal s v)) (add-sub_cancel id 1) (add-sub_cancel value 1)
pattern_again pattern.Nul = refl

output_again : (o : Out) → output_of_unit_item (unit_item_of_output o) ≡ Some o
output_again (output.Char c) = refl
output_again (output.Mark mark) = refl
output_again (output.Index store offset) = ap (λ s. Some (output.Index s offset)) (add-sub_cancel store 1)
output_again output.Context = refl
output_again (output.ContextAt offset) = refl
output_again (output.Enter group) = ap (λ g. Some (output.Enter g)) (add-sub_cancel group 1)
output_again (output.Set store value) = ap₂ (λ s v. Some (output.Set s v)) (add-sub_cancel store 1) (add-sub_cancel value 1)
output_again (output.SetSystem id value) = ap₂ (λ s v. Some (output.SetSystem s v)) (add-sub_cancel id 1) (add-sub_cancel value 1)
output_again (output.Save store) = ap (λ s. Some (output.Save s)) (add-sub_cancel store 1)
output_again (output.Reset store) = ap (λ s. Some (output.Reset s)) (add-sub_cancel store 1)
output_again output.Nul = refl
output_again output.Beep = refl
output_again output.Stop = refl

filter_map-map : {X Y : Type 0} (there : X → Y) (again : Y → Option X) → ((x : X) → again (there x) ≡ Some x) → (xs : List X) → filter_map again (map there xs) ≡ xs
filter_map-map there again same [] = refl
filter_map-map {X} there again same (x ∷ xs) = rw (same x) (ap (λ (ys : List X). x ∷ ys) (filter_map-map there again same xs))

-- the items that a string in a file spells
contents : {X : Type 0} (there : X → UnitItem) (again : UnitItem → Option X) → ((x : X) → again (there x) ≡ Some x)
    → (bytes : List ℕ) (place : ℕ) (xs : List X) → 0 < place → All (λ x. IsSpellable (there x)) xs
    → StandsAt bytes place (string (item_units (map there xs)))
    → filter_map again (items_of (string_at bytes (offset_of (item_units (map there xs)) place))) ≡ xs
contents there again same bytes place xs positive spellable h =
    let items : List UnitItem = map there xs in
    let each : All IsSpellable items = All-map IsSpellable there xs spellable in
    ap (λ us. filter_map again (items_of us)) (string_at-stands bytes place (item_units items) positive (item_units-nonzero items each) h)
    ∙ ap (filter_map again) (items_of-item_units items each)
    ∙ filter_map-map there again same xs

pub elements_at-stands : (bytes : List ℕ) (place : ℕ) (elements : List Element) → 0 < place → All (λ e. IsSpellable (unit_item_of_element e)) elements
    → StandsAt bytes place (string (element_units elements)) → elements_at bytes (offset_of (element_units elements) place) ≡ elements
elements_at-stands bytes place elements positive spellable h = contents unit_item_of_element element_of_unit_item element_again bytes place elements positive spellable h

pub patterns_at-stands : (bytes : List ℕ) (place : ℕ) (context : List Pat) → 0 < place → All (λ p. IsSpellable (unit_item_of_pattern p)) context
    → StandsAt bytes place (string (pattern_units context)) → patterns_at bytes (offset_of (pattern_units context) place) ≡ context
patterns_at-stands bytes place context positive spellable h = contents unit_item_of_pattern pattern_of_unit_item pattern_again bytes place context positive spellable h

pub outputs_at-stands : (bytes : List ℕ) (place : ℕ) (outputs : List Out) → 0 < place → All (λ o. IsSpellable (unit_item_of_output o)) outputs
    → StandsAt bytes place (string (output_units outputs)) → outputs_at bytes (offset_of (output_units outputs) place) ≡ outputs
outputs_at-stands bytes place outputs positive spellable h = contents unit_item_of_output output_of_unit_item output_again bytes place outputs positive spellable h

-- ---- names

no_pair : (c v : ℕ) → (c < 0xD800) ⊎ (0xE000 ≤ c) → ¬ (IsPair c v)
no_pair c v (inl h) pair = omega arith
no_pair c v (inr h) pair = omega arith

lone : (c : ℕ) → (c < 0xD800) ⊎ (0xE000 ≤ c) → lone_unit_char c ≡ Some c
lone c (inl h) = lone_unit_char_low c h
lone c (inr h) = lone_unit_char_high c h

utf16_chars-char : (c : ℕ) (units : List ℕ) → IsScalar c → utf16_chars (char_units c ++ units) ≡ Some c ∷ utf16_chars units
utf16_chars-char c units scalar =
    elim (cases_lt c 0x1_0000) [
      | inl low ↦
          let apart : (c < 0xD800) ⊎ (0xE000 ≤ c) = elim (scalar_cases c scalar) [ inl below ↦ inl below | inr above ↦ inr above.0 ] in
          rw (char_units_low c low) (utf16_chars_lone c units (no_pair c (get_or units 0 0) apart) ∙ ap (λ o. o ∷ utf16_chars units) (lone c apart))
      | inr high ↦
          let below : c < 0x11_0000 = elim (scalar_cases c scalar) [ inl below ↦ omega arith | inr above ↦ above.1 ] in
          let first : ℕ = 0xD800 + (c - 0x1_0000) / 0x400 in
          let second : ℕ = 0xDC00 + (c - 0x1_0000) % 0x400 in
          let pair : IsPair first second = (omega arith, omega arith, omega arith, omega arith) in
          let same : surrogate_pair_char first second ≡ c = omega arith in
          rw (char_units_high c high) (utf16_chars_pair first second units pair ∙ ap (λ x. Some x ∷ utf16_chars units) same)
    ]

utf16_lossy_chars-units : (cs : List ℕ) → scalars cs ≡ true → utf16_lossy_chars (flat_map char_units cs) ≡ cs
utf16_lossy_chars-units [] h = ap (map (λ o. unwrap_or o 0xFFFD)) utf16_chars-nil
utf16_lossy_chars-units (c ∷ cs) h =
    let parts = and_parts (scalar c) (scalars cs) h in
    ap (map (λ o. unwrap_or o 0xFFFD)) (utf16_chars-char c (flat_map char_units cs) parts.0)
    ∙ ap (λ (read : List ℕ). c ∷ read) (utf16_lossy_chars-units cs parts.1)

pub units-nonzero : (cs : List ℕ) → All (λ c. (c ≢ 0) × (c ≢ 0xFFFF)) cs → All (λ unit. unit ≢ 0) (flat_map char_units cs)
units-nonzero [] h = All-nil (λ unit. unit ≢ 0)
units-nonzero (c ∷ cs) h =
    All-append (λ unit. unit ≢ 0) (char_units c) (flat_map char_units cs) (char_units-nonzero c (All-head (λ d. (d ≢ 0) × (d ≢ 0xFFFF)) c cs h).0)
    (units-nonzero cs (All-tail (λ d. (d ≢ 0) × (d ≢ 0xFFFF)) c cs h))

pub name_at-stands : (bytes : List ℕ) (place : ℕ) (name : List ℕ) → 0 < place → IsWritableName name
    → StandsAt bytes place (string (name_units name)) → name_at bytes (offset_of (name_units name) place) ≡ name
unfolding name_at name_units
name_at-stands bytes place name positive writable h =
    ap (λ us. encode_utf8_all (utf16_lossy_chars us)) (string_at-stands bytes place (flat_map char_units (chars name)) positive (units-nonzero (chars name) writable.characters) h)
    ∙ ap encode_utf8_all (utf16_lossy_chars-units (chars name) (scalars-chars name writable.utf8))
    ∙ encodes-chars name writable.utf8

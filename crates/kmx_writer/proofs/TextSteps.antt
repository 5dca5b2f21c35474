-- Steps over the first character of a text, and the end of a text.
use Rattle.std.proofs.Common.{◌≡◌, ℕ, ◌+◌, ◌/◌, ◌%◌, ◌<◌, List, [], ◌∷◌, ◌++◌, length, sym, ap, ◌∙◌, append_assoc, append-nil, length-append, arith, inl, inr}
use Rattle.std.specs.List.{flat_map}
use Rattle.std.specs.Str.{IsUtf8, chars, encode_utf8_all}
use Rattle.std.specs.Char.{encode_utf8}
use Rattle.std.proofs.lemmas.List.{nil_from_length}
use Rattle.std.proofs.lemmas.Str.{IsUtf8-past_char, chars_past_char, chars-nil, encodes-chars}
use Rattle.std.proofs.lemmas.Bool.{cases_lt}
use Rattle.std.proofs.lemmas.List.Concat.{flat_map-append}
use Rattle.kmn_base.specs.Spelling.{char_units, unit_bytes}
use Rattle.kmx_format.specs.File.{string}
use Rattle.kmx_format.specs.FileUnits.{name_units}
use Rattle.kmx_format.proofs.FileItems.{char_units_low, char_units_high}

-- the units of a text's characters
abbrev pub text_units : List ℕ → List ℕ
text_units text = flat_map char_units (chars text)

-- the rest of a text after its first character
pub record StepsOver (before after : List ℕ) (c : ℕ) : Type 0 where
  pub utf8 : IsUtf8 after
  pub units : text_units before ≡ char_units c ++ text_units after

pub steps_over : (before after : List ℕ) (c : ℕ) → IsUtf8 before → before ≡ encode_utf8 c ++ after → StepsOver before after c
steps_over before after c text is = record {
  utf8 = IsUtf8-past_char before after c text is;
  units = ap (flat_map char_units) (chars_past_char before after c text is);
}

pub units_step : (before after : List ℕ) (c : ℕ) → IsUtf8 before → before ≡ encode_utf8 c ++ after
    → length (text_units before) ≡ length (char_units c) + length (text_units after)
units_step before after c text is = ap length (steps_over before after c text is).units ∙ length-append (char_units c) (text_units after)

pub no_text : (text : List ℕ) → length text ≡ 0 → text_units text ≡ []
no_text text none = ap text_units (nil_from_length text none) ∙ ap (flat_map char_units) chars-nil

pub bytes_step : (before after : List ℕ) (c : ℕ) → IsUtf8 before → before ≡ encode_utf8 c ++ after
    → unit_bytes (text_units before) ≡ unit_bytes (char_units c) ++ unit_bytes (text_units after)
bytes_step before after c text is =
    ap unit_bytes (steps_over before after c text is).units ∙ flat_map-append (λ unit. (unit % 256) ∷ (unit / 256) ∷ []) (char_units c) (text_units after)

-- if the first character of a text is appended, the output and the rest of the text still result in the whole
pub put_more : (out start before after : List ℕ) (c : ℕ) (all : List ℕ) → IsUtf8 before → before ≡ encode_utf8 c ++ after
    → out ++ unit_bytes (text_units before) ≡ start ++ all → (out ++ unit_bytes (char_units c)) ++ unit_bytes (text_units after) ≡ start ++ all
put_more out start before after c all text is so_far =
    append_assoc out (unit_bytes (char_units c)) (unit_bytes (text_units after))
    ∙ ap (λ (xs : List ℕ). out ++ xs) (sym (bytes_step before after c text is)) ∙ so_far

-- if the rest of the text is empty, the output is the whole
pub put_all : (out start rest all : List ℕ) → length rest ≡ 0 → out ++ unit_bytes (text_units rest) ≡ start ++ all → out ≡ start ++ all
put_all out start rest all none so_far =
    sym (append-nil out) ∙ ap (λ (xs : List ℕ). out ++ unit_bytes xs) (sym (no_text rest none)) ∙ so_far

char_has_units : (c : ℕ) → 0 < length (char_units c)
char_has_units c =
    elim (cases_lt c 0x1_0000) [
      | inl low ↦ rw (char_units_low c low) (omega arith)
      | inr high ↦ rw (char_units_high c high) (omega arith)
    ]

chars_have_units : (cs text : List ℕ) → encode_utf8_all cs ≡ text → 0 < length text → 0 < length (flat_map char_units cs)
chars_have_units [] text is some = absurd (omega (arith, ap length is))
chars_have_units (c ∷ cs) text is some = omega (arith, length-append (char_units c) (flat_map char_units cs), char_has_units c)

-- if a text has bytes, it has units
pub has_units : (text : List ℕ) → IsUtf8 text → 0 < length text → 0 < length (name_units text)
unfolding name_units
has_units text utf8 some = chars_have_units (chars text) text (encodes-chars text utf8) some

pub no_units : (text : List ℕ) → length text ≡ 0 → string (name_units text) ≡ []
unfolding name_units string
no_units text none = ap string (no_text text none)

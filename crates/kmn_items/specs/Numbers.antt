-- Numbers in words: characters in three bases, and offsets.
use Rattle.std.specs.Prelude.{ℕ, Bool, false, ◌&&◌, nat_eq, nat_le, if◌then◌else◌, List, [], ◌∷◌, length, drop, Option, Some, None, is_some}
use Rattle.std.specs.Char.{is_digit}
use Rattle.std.specs.Str.{byte}
use lib.Utf8.{scalar}
use Rattle.kmn_base.specs.Digits.{are_digits, bounded_value}
use Rattle.kmn_base.specs.Spelling.{is_forbidden}
use Rattle.kmn_base.specs.declared.codes.Code.TheVariants.{L02, L04}
use Rattle.kmn_base.specs.declared.texts.TheConstants.{NO_CHARACTER}
use Rattle.kmn_items.specs.declared.syntax.Lead.{Lead}
use Rattle.kmn_items.specs.declared.syntax.Lead.TheVariants as lead

-- whether a text begins with a digit of a base
abbrev pub begins_digit : ℕ → List ℕ → Bool
begins_digit base [] = false
begins_digit base (b ∷ bs) = is_digit b base

-- whether a text begins with a letter and then a digit of a base
abbrev pub is_prefixed : ℕ → ℕ → List ℕ → Bool
is_prefixed letter base [] = false
is_prefixed letter base (b ∷ bs) = nat_eq b letter && begins_digit base bs

-- the base of a word that is read as a number: a digit begins an octal number, `d` and a digit a
-- decimal one, `x` and a hexadecimal digit a hexadecimal one
abbrev pub number_base : List ℕ → Option ℕ
number_base text =
    if begins_digit 10 text then Some 8
    else (if is_prefixed (byte "d") 10 text then Some 10
    else (if is_prefixed (byte "x") 16 text then Some 16 else None))

-- whether a word is read as a number
abbrev pub is_number_word : List ℕ → Bool
is_number_word text = is_some (number_base text)

-- the digits of such a word
abbrev pub number_digits : List ℕ → List ℕ
number_digits text = if begins_digit 10 text then text else drop 1 text

-- a code point as the kind of an item
abbrev pub character_lead : ℕ → Lead
character_lead c =
    if is_forbidden c then lead.Wrong L02
    else (if scalar c then lead.One c else lead.Wrong L04)

-- digits of a base as the kind of an item
abbrev pub digits_lead : ℕ → List ℕ → Lead
digits_lead base digits =
    if are_digits base digits then character_lead (bounded_value NO_CHARACTER base digits)
    else lead.Wrong L04

-- whether a text is an offset: 1 to 9 decimal digits
abbrev pub is_offset : List ℕ → Bool
is_offset text = nat_le 1 (length text) && nat_le (length text) 9 && are_digits 10 text

-- the number of an offset, which has at most 9 digits
abbrev pub offset_value : List ℕ → ℕ
offset_value text = bounded_value 999999999 10 text

-- What is printed of the detail of a refusal, after the meaning of its code.
use Rattle.std.specs.Prelude.{ℕ, ◌+◌, ◌-◌, nat_eq, nat_lt, nat_le, Bool, false, ◌&&◌, ◌||◌, if◌then◌else◌, List, [], ◌∷◌, ◌++◌, length, take, flat_map, codes}
use Rattle.std.specs.List.{concat}
use Rattle.std.specs.Fmt.{decimal}
use Rattle.kmn_base.specs.Bytes.{is_quote}
use Rattle.refusal_details.specs.declared.detail.Detail.{Detail}
use Rattle.refusal_details.specs.declared.detail.Detail.TheVariants as detail
use Rattle.check_texts.specs.declared.shown_words.TheConstants.{WORD_CHARACTERS}

-- whether a byte of UTF-8 begins a character
abbrev pub begins_character : ℕ → Bool
begins_character byte = nat_lt byte 128 || nat_le 192 byte

-- whether a byte begins a character that is not printed, if a number of characters is left to print; and how many are left after a byte
unfoldable pub is_past : ℕ → ℕ → Bool
is_past left byte = nat_eq left 0 && begins_character byte

unfoldable pub left_after : ℕ → ℕ → ℕ
left_after left byte = if begins_character byte then left - 1 else left

-- the number of bytes of the first characters of a text, if a number of characters is left to print
abbrev pub front_size : ℕ → List ℕ → ℕ
front_size left [] = 0
front_size left (byte ∷ bytes) = if is_past left byte then 0 else 1 + front_size (left_after left byte) bytes

-- whether a byte is a character that a terminal obeys, and whether it is the second byte of one, U+0080 to U+009F, given the byte before it
unfoldable pub is_obeyed : ℕ → Bool
is_obeyed byte = nat_lt byte 32 || nat_eq byte 127

unfoldable pub ends_obeyed : ℕ → ℕ → Bool
ends_obeyed previous byte = nat_eq previous 0xC2 && nat_lt byte 0xA0

-- the printed byte for a byte after another one: characters that a terminal obeys become U+003F and U+00BF, the two question marks
unfoldable pub visible_byte : ℕ → ℕ → ℕ
visible_byte previous byte = if is_obeyed byte then 0x3F else (if ends_obeyed previous byte then 0xBF else byte)

-- the printed bytes of a text after a byte
abbrev pub visible_text : ℕ → List ℕ → List ℕ
visible_text previous [] = []
visible_text previous (byte ∷ bytes) = visible_byte previous byte ∷ visible_text byte bytes

-- two dots for the rest of a text, if some bytes of it are not printed
unfoldable pub rest_dots : ℕ → List ℕ → List ℕ
rest_dots size text = if nat_lt size (length text) then codes ".." else []

-- the printed form of a text: its first characters, with a sign for each that a terminal obeys, and two dots for the others
unfoldable pub shown_text : List ℕ → List ℕ
shown_text text =
    visible_text 0 (take (front_size WORD_CHARACTERS text) text) ++ rest_dots (front_size WORD_CHARACTERS text) text

-- whether a text begins with a quote
abbrev pub begins_quote : List ℕ → Bool
begins_quote [] = false
begins_quote (byte ∷ bytes) = is_quote byte

-- a word in quotes, unless it has quotes itself
unfoldable pub quote_mark : List ℕ → List ℕ
quote_mark word = if begins_quote word then [] else codes "'"

unfoldable pub quoted_word : List ℕ → List ℕ
quoted_word word = concat (quote_mark word ∷ shown_text word ∷ quote_mark word ∷ [])

-- a name that a word may mean
unfoldable pub near_text : List ℕ → List ℕ
near_text name = concat (codes ", perhaps " ∷ shown_text name ∷ [])

-- a word with the names that it may mean
unfoldable pub word_text : List ℕ → List (List ℕ) → List ℕ
word_text word near = concat (codes ": " ∷ quoted_word word ∷ flat_map near_text near ∷ [])

-- the line that defines a name first, and a name with this line
unfoldable pub first_text : ℕ → List ℕ
first_text line = concat (codes ", already defined in line " ∷ decimal line ∷ [])

unfoldable pub defined_text : List ℕ → ℕ → List ℕ
defined_text name line = concat (codes ": " ∷ quoted_word name ∷ first_text line ∷ [])

-- the detail of a refusal
unfoldable pub detail_text : Detail → List ℕ
detail_text detail.Nothing = []
detail_text (detail.Word word near) = word_text word near
detail_text (detail.Defined name line) = defined_text name line

-- What is printed of a wrong word after the names that it may mean: how this language says what the word says elsewhere.
use Rattle.std.specs.Prelude.{ℕ, nat_eq, nat_le, ◌==◌, Bool, ◌&&◌, ◌||◌, if◌then◌else◌, List, [], ◌∷◌, length, take, slice_get, unwrap_or, codes}
use Rattle.std.specs.List.{concat}
use Rattle.kmn_base.specs.Names.{same_name}
use Rattle.kmn_base.specs.declared.codes.Code.{Code}
use Rattle.kmn_base.specs.declared.codes.Code.TheVariants.{L04, S01, S05, S06, S11, S12, C05, C12}
use Rattle.refusal_details.specs.declared.detail.Detail.{Detail}
use Rattle.refusal_details.specs.declared.detail.Detail.TheVariants as detail

-- the advice of the first row of a table whose word is this one, and of the first row whose word begins this one
abbrev pub advised_in : List (List ℕ × List ℕ) → List ℕ → List ℕ
advised_in [] word = []
advised_in (row ∷ rows) word = if same_name row.0 word then row.1 else advised_in rows word

abbrev pub begun_in : List (List ℕ × List ℕ) → List ℕ → List ℕ
begun_in [] word = []
begun_in (row ∷ rows) word = if same_name row.0 (take (length row.0) word) then row.1 else begun_in rows word

-- an advice, or another one if it is empty
abbrev pub advice_or : List ℕ → List ℕ → List ℕ
advice_or advice other = if length advice == 0 then other else advice

-- the byte at an index, or 0
abbrev pub byte_at : List ℕ → ℕ → ℕ
byte_at text at = unwrap_or (slice_get text at) 0

-- whether a word with these first bytes begins with a mark of comments in other languages: two slashes, a slash and a star, or #
unfoldable pub is_comment_mark : ℕ → ℕ → Bool
is_comment_mark first second = nat_eq first 0x23 || (nat_eq first 0x2F && (nat_eq second 0x2F || nat_eq second 0x2A))

-- whether a word with these first bytes begins with a quote that is not straight: U+00AB, U+00BB, U+2018 to U+201F, U+2039 or U+203A
unfoldable pub is_other_quote : ℕ → ℕ → ℕ → Bool
is_other_quote first second third =
    (nat_eq first 0xC2 && (nat_eq second 0xAB || nat_eq second 0xBB))
    || (nat_eq first 0xE2 && nat_eq second 0x80 && ((nat_le 0x98 third && nat_le third 0x9F) || nat_eq third 0xB9 || nat_eq third 0xBA))

-- whether a word with these first bytes begins with another blank than a space: U+00A0, U+2000 to U+200A, U+202F or U+3000
unfoldable pub is_other_blank : ℕ → ℕ → ℕ → Bool
is_other_blank first second third =
    (nat_eq first 0xC2 && nat_eq second 0xA0)
    || (nat_eq first 0xE2 && nat_eq second 0x80 && ((nat_le 0x80 third && nat_le third 0x8A) || nat_eq third 0xAF))
    || (nat_eq first 0xE3 && nat_eq second 0x80 && nat_eq third 0x80)

-- whether a word with these first bytes begins with two dots, the sign of a range
unfoldable pub is_range : ℕ → ℕ → Bool
is_range first second = nat_eq first 0x2E && nat_eq second 0x2E

-- the advice for a word by its first three bytes
unfoldable pub marked_advice : ℕ → ℕ → ℕ → List ℕ
marked_advice first second third =
    if is_comment_mark first second then codes "a comment begins with the letter c and a space"
    else (if is_other_quote first second third then codes "a text has straight quotes"
    else (if is_other_blank first second third then codes "only spaces and tabs are blanks"
    else (if is_range first second then codes "a range is written out, each character or key by itself" else [])))

-- the advice for a word that begins like a word of another language
abbrev pub other_advice : List ℕ → List ℕ
other_advice word = marked_advice (byte_at word 0) (byte_at word 1) (byte_at word 2)

-- the advice for a word that begins a line: old headers, and statements that only the language of Keyman Developer has
unfoldable pub statement_rows : List (List ℕ × List ℕ)
statement_rows =
    (codes "NAME", codes "instead: store(&name) and the text") ∷
    (codes "BITMAP", codes "instead: store(&bitmap) and the text") ∷
    (codes "COPYRIGHT", codes "instead: store(&copyright) and the text") ∷
    (codes "HOTKEY", codes "instead: store(&hotkey) and the text") ∷
    (codes "MESSAGE", codes "instead: store(&message) and the text") ∷
    (codes "VERSION", codes "instead: store(&version) and a version from 6.0 on, or nothing") ∷
    (codes "LANGUAGE", codes "instead: nothing") ∷
    (codes "LAYOUT", codes "instead: nothing") ∷
    (codes "CAPS", codes "instead: rules for both states of caps lock") ∷
    (codes "SHIFT", codes "instead: rules for both states of caps lock") ∷
    (codes "NewContext", codes "instead: $keymanweb: before this line and the lines of its groups") ∷
    (codes "PostKeystroke", codes "instead: $keymanweb: before this line and the lines of its groups") ∷
    (codes "readonly", codes "instead: nothing, and context first in each output of the group") ∷ []

-- the advice for an item before the >, and for one of an output or a store
unfoldable pub context_rows : List (List ℕ × List ℕ)
context_rows =
    (codes "outs", codes "instead: the characters of the store") ∷
    (codes "[", codes "a virtual key is only the key after the +") ∷ []

unfoldable pub output_rows : List (List ℕ × List ℕ)
output_rows =
    (codes "any", codes "in an output, instead: index with the position of the any") ∷
    (codes "notany", codes "only a context has it") ∷
    (codes "if", codes "only a context has it") ∷
    (codes "platform", codes "only a context has it") ∷
    (codes "beep", codes "only an output has it") ∷
    (codes "nul", codes "a store has no nul") ∷
    (codes ",", codes "blanks separate items") ∷ []

-- the advice for a $ before the >
unfoldable pub context_starts : List (List ℕ × List ℕ)
context_starts = (codes "$", codes "only an output or a store has $ and a name") ∷ []

-- the advice for a word in the brackets of a virtual key, and for a word with a beginning
unfoldable pub key_rows : List (List ℕ × List ℕ)
key_rows =
    (codes "]", codes "a bracket has a key, which comes last") ∷
    (codes "+", codes "blanks separate the words") ∷
    (codes ",", codes "blanks separate the words") ∷
    (codes "SHIFT", codes "the key comes last") ∷
    (codes "CTRL", codes "the key comes last") ∷
    (codes "LCTRL", codes "the key comes last") ∷
    (codes "RCTRL", codes "the key comes last") ∷
    (codes "ALT", codes "the key comes last") ∷
    (codes "LALT", codes "the key comes last") ∷
    (codes "RALT", codes "the key comes last") ∷
    (codes "CAPS", codes "the key comes last") ∷
    (codes "NCAPS", codes "the key comes last") ∷
    (codes "NUMLOCK", codes "instead: nothing, since no rule can ask for it") ∷
    (codes "NNUMLOCK", codes "instead: nothing, since no rule can ask for it") ∷
    (codes "SCROLLLOCK", codes "instead: nothing, since no rule can ask for it") ∷
    (codes "NSCROLLLOCK", codes "instead: nothing, since no rule can ask for it") ∷
    (codes "K_CAPS", codes "no rule can have this key") ∷
    (codes "K_NUMLOCK", codes "no rule can have this key") ∷
    (codes "K_SCROLL", codes "no rule can have this key") ∷
    (codes "K_SHIFT", codes "no rule can have this key") ∷
    (codes "K_CONTROL", codes "no rule can have this key") ∷
    (codes "K_ALT", codes "no rule can have this key") ∷
    (codes "K_PAUSE", codes "no rule can have this key") ∷
    (codes "K_NPENTER", codes "no rule can have this key") ∷ []

unfoldable pub key_starts : List (List ℕ × List ℕ)
key_starts =
    (codes "K_F1", codes "no rule can have this key") ∷
    (codes "K_F2", codes "no rule can have this key") ∷
    (codes "K_?", codes "no rule can have this key") ∷
    (codes "U_", codes "a U_ name has 4 to 6 digits") ∷
    (codes "'", codes "instead: the name of the key that types it, as in [SHIFT K_A]") ∷
    (codes "\"", codes "instead: the name of the key that types it, as in [SHIFT K_A]") ∷ []

-- the advice for a number: other words with this code are offsets
unfoldable pub number_starts : List (List ℕ × List ℕ)
number_starts =
    (codes "U+", codes "a character is U+ and 4 to 6 hexadecimal digits, and a range is written out") ∷
    (codes "8", codes "a number is octal, unless d comes before its digits") ∷
    (codes "9", codes "a number is octal, unless d comes before its digits") ∷ []

-- the advice for an unknown system store, and for one where an ordinary store is named
unfoldable pub system_rows : List (List ℕ × List ℕ)
system_rows = (codes "&oldcharposmatching", codes "instead: nothing") ∷ []

unfoldable pub name_rows : List (List ℕ × List ℕ)
name_rows = (codes "&layer", codes "only if and set have it") ∷ []

-- the advice for a word or a system store that is not supported
unfoldable pub left_out_rows : List (List ℕ × List ℕ)
left_out_rows =
    (codes "clearcontext", codes "instead: nul") ∷
    (codes "fix", codes "instead: nul") ∷
    (codes "switch", codes "no keyboard can switch to another one") ∷
    (codes "baselayout", codes "instead: an option that the application sets") ∷
    (codes "[", codes "instead: the characters of the key") ∷
    (codes "&includecodes", codes "instead: the number of each character, as in U+00E9") ∷
    (codes "&capsalwaysoff", codes "instead: rules for both states of caps lock") ∷
    (codes "&capsononly", codes "instead: rules for both states of caps lock") ∷
    (codes "&shiftfreescaps", codes "instead: rules for both states of caps lock") ∷
    (codes "&version", codes "instead: 6.0, 7.0, 8.0, 9.0, 10.0, or 14.0 to 17.0") ∷
    (codes "&mnemoniclayout", codes "instead: 0") ∷ []

-- the advice for another system store in a condition or in set
unfoldable pub left_out_starts : List (List ℕ × List ℕ)
left_out_starts = (codes "&", codes "instead: an option store that the application sets or reads") ∷ []

-- the advice for something that is not supported, for an item before the >, and for a word in brackets
abbrev pub left_out_advice : List ℕ → List ℕ
left_out_advice word = advice_or (advised_in left_out_rows word) (begun_in left_out_starts word)

abbrev pub context_advice : List ℕ → List ℕ
context_advice word = advice_or (advised_in context_rows word) (begun_in context_starts word)

abbrev pub key_advice : List ℕ → List ℕ
key_advice word = advice_or (advised_in key_rows word) (begun_in key_starts word)

-- the advice for a word with which a line is refused, by the code
unfoldable pub word_advice : Code → List ℕ → List ℕ
word_advice L04 word = begun_in number_starts word
word_advice S01 word = advice_or (advised_in statement_rows word) (other_advice word)
word_advice S05 word = advice_or (context_advice word) (other_advice word)
word_advice S06 word = advice_or (advised_in output_rows word) (other_advice word)
word_advice S11 word = key_advice word
word_advice S12 word = advised_in system_rows word
word_advice C05 word = advised_in name_rows word
word_advice C12 word = left_out_advice word
word_advice other word = []

-- the printed form of an advice
unfoldable pub advice_text : List ℕ → List ℕ
advice_text advice = if length advice == 0 then [] else concat (codes "; " ∷ advice ∷ [])

-- the advice for the detail of a refusal with a code
unfoldable pub detail_advice : Code → Detail → List ℕ
detail_advice code (detail.Word word near) = advice_text (word_advice code word)
detail_advice code other = []

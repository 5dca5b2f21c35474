-- The names that are read character by character are the words of the text, each once.
use Rattle.std.proofs.Common.{◌≡◌, ℕ, Bool, true, false, not, List, [], ◌∷◌, ◌++◌, length, refl, sym, ap, ◌∙◌, arith, if◌then◌else◌, append_assoc, append-nil}
use Rattle.std.specs.Prelude.{filter, nat_eq, encode_utf8_all}
use Rattle.std.specs.Char.{encode_utf8}
use Rattle.std.specs.List.{slice_split}
use Rattle.std.proofs.lemmas.Bool.Decides.{nat_tests}
use Rattle.std.proofs.lemmas.List.Elements.{All-nil, All-append}
use Rattle.std.proofs.lemmas.List.Splits.{slice_split_at, slice_split_none}
use Rattle.std.proofs.lemmas.Str.{encode_ascii}
use Rattle.kmn_base.specs.Names.{same_name}
use Rattle.virtual_keys.specs.Dictionary.{with_name}
use Rattle.rule_model.specs.Tab.{distinct_onto, words}
use Rattle.virtual_keys.proofs.WordBytes.{HasNoSpace, bytes_of}
use Rattle.virtual_keys.proofs.NamePlaces.{with_name_new}
use Rattle.rule_index.specs.OwnNames.{names_with}
use Rattle.rule_index.specs.OwnNames.{word_after}
use Rattle.rule_index.specs.OwnNames.{names_after}

-- the names after all characters
abbrev pub names_read : List (List ℕ) → List ℕ → List ℕ → List (List ℕ)
names_read names word [] = names_with names word
names_read names word (c ∷ cs) = names_read (names_after c names word) (word_after c word) cs

-- whether a word is not empty
abbrev is_word : List ℕ → Bool
is_word word = not (nat_eq (length word) 0)

-- if a word is before other words, its name is added first, unless the word is empty
word_as : (names : List (List ℕ)) (word : List ℕ) (rest : List (List ℕ)) (empty : Bool) → nat_eq (length word) 0 ≡ empty
    → distinct_onto same_name names (if not empty then word ∷ filter is_word rest else filter is_word rest)
    ≡ distinct_onto same_name (if empty then names else with_name names word) (filter is_word rest)
word_as names word rest true e = refl
word_as names word rest false e = ap (λ seen. distinct_onto same_name seen (filter is_word rest)) (sym (with_name_new names word))

word_first : (names : List (List ℕ)) (word : List ℕ) (rest : List (List ℕ))
    → distinct_onto same_name names (filter is_word (word ∷ rest)) ≡ distinct_onto same_name (names_with names word) (filter is_word rest)
word_first names word rest = word_as names word rest (nat_eq (length word) 0) refl

-- one more character is read, if the words of the text after it are known
words_step : (names : List (List ℕ)) (word : List ℕ) (c : ℕ) (cs : List ℕ) → HasNoSpace word
    → ((more : List (List ℕ)) → names_read more [] cs ≡ distinct_onto same_name more (words (encode_utf8_all cs)))
    → ((longer : List ℕ) → HasNoSpace longer → names_read names longer cs ≡ distinct_onto same_name names (words (longer ++ encode_utf8_all cs)))
    → (space : Bool) → nat_eq c 32 ≡ space
    → names_read (if space then names_with names word else names) (if space then [] else word ++ encode_utf8 c) cs
    ≡ distinct_onto same_name names (words (word ++ (encode_utf8 c ++ encode_utf8_all cs)))
words_step names word c cs whole behind on true e =
    let is : c ≡ 32 = grind (arith, nat_tests) in
    let bytes : encode_utf8 c ≡ 32 ∷ [] = ap encode_utf8 is ∙ encode_ascii 32 (omega arith) in
    let parts : slice_split (nat_eq 32) (word ++ 32 ∷ encode_utf8_all cs) ≡ word ∷ slice_split (nat_eq 32) (encode_utf8_all cs)
    = slice_split_at (nat_eq 32) word 32 (encode_utf8_all cs) whole refl in
    behind (names_with names word)
    ∙ sym (word_first names word (slice_split (nat_eq 32) (encode_utf8_all cs)))
    ∙ ap (λ all. distinct_onto same_name names (filter is_word all)) (sym parts)
    ∙ ap (λ text. distinct_onto same_name names (words (word ++ (text ++ encode_utf8_all cs)))) (sym bytes)
words_step names word c cs whole behind on false e =
    on (word ++ encode_utf8 c) (All-append (λ byte. nat_eq 32 byte ≡ false) word (encode_utf8 c) whole (bytes_of c e))
    ∙ ap (λ text. distinct_onto same_name names (words text)) (append_assoc word (encode_utf8 c) (encode_utf8_all cs))

-- the names that are read from a text after the beginning of a word are the distinct words of both
words_read : (names : List (List ℕ)) (word : List ℕ) (cs : List ℕ) → HasNoSpace word
    → names_read names word cs ≡ distinct_onto same_name names (words (word ++ encode_utf8_all cs))
words_read names word [] whole =
    sym (word_first names word [])
    ∙ ap (λ parts. distinct_onto same_name names (filter is_word parts)) (sym (ap (slice_split (nat_eq 32)) (append-nil word) ∙ slice_split_none (nat_eq 32) word whole))
words_read names word (c ∷ cs) whole =
    words_step names word c cs whole (λ more. words_read more [] cs (All-nil (λ byte. nat_eq 32 byte ≡ false))) (λ longer without. words_read names longer cs without)
    (nat_eq c 32) refl

-- so the names that are read from the first character on are the distinct words
pub names_are_read : (cs : List ℕ) → names_read [] [] cs ≡ distinct_onto same_name [] (words (encode_utf8_all cs))
names_are_read cs = words_read [] [] cs (All-nil (λ byte. nat_eq 32 byte ≡ false))

-- A key dictionary has at most as many names as there are codes: each takes a character and a space of one store.
use Rattle.std.proofs.Common.{◌≡◌, ℕ, ◌+◌, ◌*◌, ◌≤◌, Bool, true, false, not, List, [], ◌∷◌, ◌++◌, length, refl, ap, ◌∙◌, arith, cond, length-append, if◌then◌else◌}
use Rattle.std.specs.Prelude.{All, filter, filter_map, find, nat_eq, encode_utf8_all}
use Rattle.std.specs.Char.{encode_utf8}
use Rattle.std.specs.List.{list_any, slice_split, onto_first}
use Rattle.std.proofs.lemmas.Bool.Decides.{nat_tests}
use Rattle.std.proofs.lemmas.List.Elements.{All-head, All-tail}
use Rattle.std.proofs.lemmas.List.Splits.{slice_split-cons_yes, slice_split-cons_no}
use Rattle.std.proofs.lemmas.Str.{encode_ascii}
use Rattle.kmn_base.specs.declared.items.Element.{Element}
use Rattle.kmn_base.specs.declared.limits.TheConstants.{STORE_ELEMENTS, KEY_NAMES}
use Rattle.kmn_base.specs.Names.{same_name}
use Rattle.virtual_keys.proofs.WordBytes.{HasNoSpace, bytes_of}
use Rattle.rule_model.specs.declared.tables.Store.{Store}
use Rattle.rule_model.proofs.KeyNames.{dictionary_has}
use Rattle.rule_model.specs.Tab.{distinct_onto, element_char, is_dictionary, store_elements, tab_dictionary, words}
use Rattle.decompile_program.proofs.WrittenCharacters.{characters-few}

-- 1 if a part is a word, else 0
abbrev one_if_word : List ℕ → ℕ
one_if_word [] = 0
one_if_word (b ∷ bytes) = 1

abbrev words_among : List (List ℕ) → ℕ
words_among [] = 0
words_among (part ∷ parts) = one_if_word part + words_among parts

-- one more than the fewest characters and spaces between them that parts need: each word but the first also needs a space
abbrev taken : List (List ℕ) → ℕ
taken [] = 1
taken (part ∷ parts) = one_if_word part + 2 * words_among parts + 1

-- the same number if the first part is a word
abbrev taken_begun : List (List ℕ) → ℕ
taken_begun [] = 2
taken_begun (part ∷ parts) = 2 * words_among parts + 2

one-few : (part : List ℕ) → one_if_word part ≤ 1
one-few [] = omega arith
one-few (b ∷ bytes) = omega arith

begun-few : (parts : List (List ℕ)) → taken_begun parts ≤ taken parts + 1
begun-few [] = omega arith
begun-few (part ∷ parts) = omega arith

taken-few : (parts : List (List ℕ)) → taken parts ≤ taken_begun parts
taken-few [] = omega arith
taken-few (part ∷ parts) = let one = one-few part in omega (arith, one)

words-few : (parts : List (List ℕ)) → 2 * words_among parts ≤ taken parts
words-few [] = omega arith
words-few (part ∷ parts) = let one = one-few part in omega (arith, one)

onto-begun : (b : ℕ) (parts : List (List ℕ)) → taken_begun (onto_first b parts) ≡ taken_begun parts
onto-begun b [] = omega arith
onto-begun b (part ∷ parts) = omega arith

abbrev parted : List ℕ → List (List ℕ)
parted = slice_split (nat_eq 32)

bytes-begun : (bytes text : List ℕ) → HasNoSpace bytes → taken_begun (parted (bytes ++ text)) ≡ taken_begun (parted text)
bytes-begun [] text h = refl
bytes-begun (b ∷ bytes) text h =
    ap taken_begun (slice_split-cons_no (nat_eq 32) b (bytes ++ text) (All-head (λ byte. nat_eq 32 byte ≡ false) b bytes h))
    ∙ onto-begun b (parted (bytes ++ text))
    ∙ bytes-begun bytes text (All-tail (λ byte. nat_eq 32 byte ≡ false) b bytes h)

character-taken : (c : ℕ) (text : List ℕ) (space : Bool) → nat_eq c 32 ≡ space → taken (parted (encode_utf8 c ++ text)) ≤ taken (parted text) + 1
character-taken c text true e =
    let is : c ≡ 32 = grind (arith, nat_tests) in
    let bytes : encode_utf8 c ≡ 32 ∷ [] = ap encode_utf8 is ∙ encode_ascii 32 (omega arith) in
    let all : taken (parted (encode_utf8 c ++ text)) ≡ taken ([] ∷ parted text) =
    ap (λ bs. taken (parted (bs ++ text))) bytes ∙ ap taken (slice_split-cons_yes (nat_eq 32) 32 text refl) in
    let few = words-few (parted text) in
    omega (arith, all, few)
character-taken c text false e =
    let begun = bytes-begun (encode_utf8 c) text (bytes_of c e) in
    let all = taken-few (parted (encode_utf8 c ++ text)) in
    let more = begun-few (parted text) in
    omega (arith, begun, all, more)

text-taken : (cs : List ℕ) → taken (parted (encode_utf8_all cs)) ≤ length cs + 1
text-taken [] = omega arith
text-taken (c ∷ cs) =
    let here : taken (parted (encode_utf8_all (c ∷ cs))) ≤ taken (parted (encode_utf8_all cs)) + 1 = character-taken c (encode_utf8_all cs) (nat_eq c 32) refl in
    let rest = text-taken cs in
    omega (arith, here, rest)

filtered-few : (parts : List (List ℕ)) → length (filter (λ word. not (nat_eq (length word) 0)) parts) ≤ words_among parts
filtered-few [] = omega arith
filtered-few ([] ∷ parts) = let rest = filtered-few parts in omega (arith, rest)
filtered-few ((b ∷ bytes) ∷ parts) = by (not (nat_eq (length (b ∷ bytes)) 0)) (filter (λ word. not (nat_eq (length word) 0)) parts) (filtered-few parts)
  where
    by : (test : Bool) (kept : List (List ℕ)) → length kept ≤ words_among parts → length (cond test ((b ∷ bytes) ∷ kept) kept) ≤ 1 + words_among parts
    by true kept h = omega (arith, h)
    by false kept h = omega (arith, h)

seen-few : (test : Bool) (seen : List (List ℕ)) (text : List ℕ) → length (if test then seen else seen ++ text ∷ []) ≤ length seen + 1
seen-few true seen text = omega arith
seen-few false seen text = let both = length-append seen (text ∷ []) in omega (arith, both)

distinct-few : (seen texts : List (List ℕ)) → length (distinct_onto same_name seen texts) ≤ length seen + length texts
distinct-few seen [] = omega arith
distinct-few seen (text ∷ texts) =
    let test : Bool = list_any (λ y. same_name y text) seen in
    let here = seen-few test seen text in
    let rest = distinct-few (if test then seen else seen ++ text ∷ []) texts in
    omega (arith, here, rest)

-- a store has no more elements than a store may have
abbrev pub HasFewElements : Store → Type 0
HasFewElements store = length store.elements ≤ STORE_ELEMENTS

dictionary-few : (stores : List Store) → All HasFewElements stores → length (store_elements (find is_dictionary stores)) ≤ STORE_ELEMENTS
dictionary-few stores few = dictionary_has (λ (elements : List Element). length elements ≤ STORE_ELEMENTS) stores (omega arith) few

-- if stores have few elements, there is a code for each name of the dictionary
pub few_names : (stores : List Store) → All HasFewElements stores → length (tab_dictionary stores) ≤ KEY_NAMES
unfolding tab_dictionary
few_names stores few =
    let elements : List Element = store_elements (find is_dictionary stores) in
    let cs : List ℕ = filter_map element_char elements in
    let text : List ℕ = encode_utf8_all cs in
    let short = dictionary-few stores few in
    let characters = characters-few elements in
    let all = text-taken cs in
    let among = words-few (parted text) in
    let kept : length (words text) ≤ words_among (parted text) = filtered-few (parted text) in
    let once = distinct-few [] (words text) in
    omega (arith, short, characters, all, among, kept, once)

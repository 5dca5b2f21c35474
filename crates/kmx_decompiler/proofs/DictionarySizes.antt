-- The names of a file's key dictionary, joined by spaces, fit in a store.
use Rattle.std.proofs.Common.{◌≡◌, ℕ, suc, ◌+◌, ◌<◌, ◌≤◌, Bool, true, false, List, [], ◌∷◌, ◌++◌, length, get_or, refl, sym, ap, ◌∙◌, arith, eqb-true, cond, if◌then◌else◌}
use Rattle.std.specs.Prelude.{All, ◌||◌, nat_eq, nat_lt, nat_le, filter, filter_map, find, chars, encode_utf8_all}
use Rattle.std.specs.List.{list_any, AllByRecursion, slice_split, onto_first, join_with_byte}
use Rattle.std.proofs.lemmas.List.{length-map}
use Rattle.std.proofs.lemmas.List.Elements.{All-nil, All-head, All-tail}
use Rattle.std.proofs.lemmas.List.Splits.{slice_split-cons_yes, slice_split-cons_no, length-slice_split}
use Rattle.std.proofs.lemmas.List.Sums.{sum_by-cons}
use Rattle.std.proofs.lemmas.Str.{chars-encodes}
use Rattle.kmn_base.specs.declared.items.Element.{Element}
use Rattle.kmn_base.specs.declared.items.Element.TheVariants as element
use Rattle.kmn_base.specs.declared.limits.TheConstants.{STORE_ELEMENTS}
use Rattle.kmn_base.specs.Names.{same_name}
use Rattle.kmn_base.specs.Texts.{character_count}
use Rattle.kmn_parser.specs.ProgramLaws.{IsCharacter, IsOwnKey}
use Rattle.kmn_parser.proofs.CleanTexts.{counted-characters}
use Rattle.rule_model.specs.declared.tables.Store.{Store}
use Rattle.rule_model.specs.declared.tables.Tables.{Tables}
use Rattle.rule_model.proofs.KeyNames.{dictionary_has}
use Rattle.rule_model.specs.Tab.{distinct_onto, element_char, is_dictionary, store_elements, tab_dictionary, words}
use Rattle.rule_checker.specs.Limits.{names_size}
use Rattle.kmx_format.specs.Playable.{IsPlayable, IsPlayableStore}
use Rattle.compile_laws.specs.Numbers.{dictionary_stores}
use Rattle.rule_checker.proofs.Sizes.{joined_size}
use Rattle.kmn_parser.proofs.Values.{all-scalars}
use Rattle.decompile_program.proofs.WrittenCharacters.{characters-few}
use Rattle.decompile_program.proofs.FewNames.{HasFewElements}
use Rattle.kmx_decompiler.proofs.SpelledItems.{value-characters}

-- the number of characters in texts, plus one for each text
abbrev pub total : List (List ℕ) → ℕ
total [] = 0
total (text ∷ texts) = suc (character_count text + total texts)

abbrev one_at : ℕ → ℕ
one_at b = cond (nat_lt b 128 || nat_le 192 b) 1 0

counted : (b : ℕ) (bytes : List ℕ) → character_count (b ∷ bytes) ≡ one_at b + character_count bytes
counted b bytes = sum_by-cons one_at b bytes

put-first : (b : ℕ) (parts : List (List ℕ)) → 0 < length parts → total (onto_first b parts) ≡ one_at b + total parts
put-first b [] some = absurd (omega (arith, some))
put-first b (part ∷ parts) some = let more = counted b part in omega (arith, more)

some-parts : (bytes : List ℕ) → 0 < length (slice_split (nat_eq 32) bytes)
some-parts bytes = let many = length-slice_split (nat_eq 32) bytes in omega (arith, many)

split-first : (b : ℕ) (bytes : List ℕ) (test : Bool) → nat_eq 32 b ≡ test → total (slice_split (nat_eq 32) bytes) ≡ suc (character_count bytes)
    → total (slice_split (nat_eq 32) (b ∷ bytes)) ≡ suc (character_count (b ∷ bytes))
split-first b bytes true space rest =
    let parts = ap total (slice_split-cons_yes (nat_eq 32) b bytes space) in
    let one : one_at b ≡ 1 = ap one_at (sym (eqb-true 32 b space)) in
    let more = counted b bytes in
    omega (arith, parts, one, more, rest)
split-first b bytes false other rest =
    let parts = ap total (slice_split-cons_no (nat_eq 32) b bytes other) in
    let put = put-first b (slice_split (nat_eq 32) bytes) (some-parts bytes) in
    let more = counted b bytes in
    omega (arith, parts, put, more, rest)

-- the parts of a text that is split at spaces have all characters of the text except the spaces
split-total : (bytes : List ℕ) → total (slice_split (nat_eq 32) bytes) ≡ suc (character_count bytes)
split-total [] = omega arith
split-total (b ∷ bytes) = split-first b bytes (nat_eq 32 b) refl (split-total bytes)

-- a list from which texts are removed has no larger total
kept-total : (test : Bool) (text : List ℕ) (kept texts : List (List ℕ)) → total kept ≤ total texts → total (cond test (text ∷ kept) kept) ≤ suc (character_count text + total texts)
kept-total true text kept texts h = omega (arith, h)
kept-total false text kept texts h = omega (arith, h)

filtered-total : (q : List ℕ → Bool) (texts : List (List ℕ)) → total (filter q texts) ≤ total texts
filtered-total q [] = omega arith
filtered-total q (text ∷ texts) = kept-total (q text) text (filter q texts) texts (filtered-total q texts)

total-append : (seen : List (List ℕ)) (text : List ℕ) → total (seen ++ text ∷ []) ≡ total seen + suc (character_count text)
total-append [] text = omega arith
total-append (other ∷ seen) text = let rest = total-append seen text in omega (arith, rest)

seen-total : (test : Bool) (seen : List (List ℕ)) (text : List ℕ) → total (if test then seen else seen ++ text ∷ []) ≤ total seen + suc (character_count text)
seen-total true seen text = omega arith
seen-total false seen text = let more = total-append seen text in omega (arith, more)

distinct-total : (seen texts : List (List ℕ)) → total (distinct_onto same_name seen texts) ≤ total seen + total texts
distinct-total seen [] = omega arith
distinct-total seen (text ∷ texts) =
    let test : Bool = list_any (λ y. same_name y text) seen in
    let here = seen-total test seen text in
    let rest = distinct-total (if test then seen else seen ++ text ∷ []) texts in
    omega (arith, here, rest)

-- the total of names is the number of their characters, plus one for each name
names-total : (names : List (List ℕ)) → All IsOwnKey names → total names ≡ names_size names + length names
names-total [] own = refl
names-total (name ∷ names) own =
    let here = counted-characters name (All-head IsOwnKey name names own).word.utf8 in
    let rest = names-total names (All-tail IsOwnKey name names own) in
    omega (arith, here, rest)

text-count : (cs : List ℕ) → All IsCharacter cs → character_count (encode_utf8_all cs) ≡ length cs
text-count cs all =
    let valid = all-scalars cs all in
    counted-characters (encode_utf8_all cs) (cs, (valid, refl)) ∙ ap length (chars-encodes cs valid)

-- elements that fit in a store, with characters that a keyboard can have
abbrev AreFew : List Element → Type 0
AreFew elements = (length elements ≤ STORE_ELEMENTS) × All IsCharacter (filter_map element_char elements)

dictionary-few : (stores : List Store) → All IsPlayableStore stores → AreFew (store_elements (find is_dictionary stores))
dictionary-few stores h = dictionary_has AreFew stores (omega arith, All-nil IsCharacter)
    (λ i d within. let store = get_or stores i d in let here = h i d within in (here.element_count, value-characters store.elements here.elements))

-- the names of a file's dictionary are in one store, separated by spaces, so their total is at most one more than a store can have
pub dictionary-total : (tables : Tables) → IsPlayable tables → total (tab_dictionary tables.stores) ≤ suc STORE_ELEMENTS
unfolding tab_dictionary
dictionary-total tables can =
    let elements : List Element = store_elements (find is_dictionary tables.stores) in
    let cs : List ℕ = filter_map element_char elements in
    let text : List ℕ = encode_utf8_all cs in
    let few = dictionary-few tables.stores can.stores in
    let shorter = characters-few elements in
    let count = text-count cs few.1 in
    let parts = split-total text in
    let kept : total (words text) ≤ total (slice_split (nat_eq 32) text) = filtered-total _ (slice_split (nat_eq 32) text) in
    let once = distinct-total [] (words text) in
    omega (arith, few.0, shorter, count, parts, kept, once)

-- if the total of names is at most one more than a store can have, there are few names, and joined by spaces they fit in a store
pub names-fit : (names : List (List ℕ)) → All IsOwnKey names → total names ≤ suc STORE_ELEMENTS
    → (length names ≤ STORE_ELEMENTS) × AllByRecursion HasFewElements (dictionary_stores names)
names-fit [] own few = ((omega arith), tt)
names-fit (name ∷ names) own few =
    let size = names-total (name ∷ names) own in
    let some = (All-head IsOwnKey name names own).word.some in
    let joined = joined_size name names own in
    let elements = length-map (chars (join_with_byte 32 (name ∷ names))) element.Char in
    ((omega (arith, few, size, some)), ((omega (arith, few, size, joined, elements)), tt))

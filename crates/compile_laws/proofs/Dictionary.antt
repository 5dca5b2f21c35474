-- The names of the key dictionary are read again from its store.
use Rattle.std.proofs.Common.{◌≡◌, ℕ, Bool, true, false, not, ◌&&◌, List, [], ◌∷◌, ◌++◌, length, map, Some, None, refl, ap, sym, ◌∙◌, arith, cond}
use Rattle.std.specs.Prelude.{nat_eq, find, filter, filter_map, flat_map, All, encode_utf8_all}
use Rattle.std.specs.List.{list_all, list_any, slice_split, join_with_byte}
use Rattle.std.specs.Option.{option_or}
use Rattle.std.specs.Str.{IsUtf8, is_utf8, chars}
use Rattle.std.proofs.lemmas.Bool.{and_parts, or_parts, not-true}
use Rattle.std.proofs.lemmas.List.Elements.{All-nil, All-cons}
use Rattle.std.proofs.lemmas.List.Folds.{find-append}
use Rattle.std.proofs.lemmas.List.Splits.{slice_split_none, slice_split_at}
use Rattle.std.proofs.lemmas.Str.{chars-nil, encodes-chars, IsUtf8-append, IsUtf8-from_is_utf8, encode_ascii}
use Rattle.kmn_base.specs.declared.items.Element.TheVariants as element
use Rattle.kmn_base.specs.Names.{same_name}
use Rattle.rule_model.specs.declared.program.Program.{Program}
use Rattle.rule_model.specs.declared.tables.Store.{Store}
use Rattle.rule_model.specs.declared.tables.Tables.{Tables}
use Rattle.rule_model.specs.Naming.{names_of, key_names, source_items, stores_of}
use Rattle.rule_model.specs.Tab.{tab, tab_dictionary, distinct_onto, words, element_char, is_dictionary, store_elements}
use Rattle.rule_model.specs.Src.{src}
use Rattle.rule_model.proofs.Distinct.{distinct_again}
use Rattle.compile_laws.specs.Numbers.{values_of, value_store, dictionary_stores}
use Rattle.compile_laws.specs.Compiles.{Compiles}
use Rattle.compile_laws.specs.WellNamed.{IsWellNamed, is_word}
use Rattle.compile_laws.proofs.Keyboards.{src_dictionary, tab_names}

passes_none : {X : Type 0} (q : X → Bool) (xs : List X) → list_any q xs ≡ false → All (λ x. q x ≡ false) xs
passes_none q [] h = All-nil (λ x. q x ≡ false)
passes_none q (x ∷ xs) h =
    let each = or_parts (q x) (list_any q xs) h in
    All-cons (λ x. q x ≡ false) x xs each.0 (passes_none q xs each.1)

finds_none : {X : Type 0} (q : X → Bool) (xs : List X) → list_any q xs ≡ false → find q xs ≡ None
finds_none q [] h = refl
finds_none q (x ∷ xs) h =
    let each = or_parts (q x) (list_any q xs) h in
    (λ i. cond (each.0 i) (Some x) (find q xs)) ∙ finds_none q xs each.1

filter_whole : {X : Type 0} (q : X → Bool) (xs : List X) → list_all q xs ≡ true → filter q xs ≡ xs
filter_whole q [] h = refl
filter_whole q (x ∷ xs) h =
    let each = and_parts (q x) (list_all q xs) h in
    (λ i. cond (each.0 i) (x ∷ filter q xs) (filter q xs)) ∙ ap (λ ys. x ∷ ys) (filter_whole q xs each.1)

-- the parts of the condition for a word
record Word (name : List ℕ) : Type 0 where
  some : not (nat_eq (length name) 0) ≡ true
  whole : All (λ b. nat_eq 32 b ≡ false) name
  text : IsUtf8 name

word_parts : (name : List ℕ) → is_word name ≡ true → Word name
word_parts name h =
    let first = and_parts (not (nat_eq (length name) 0)) (not (list_any (nat_eq 32) name) && is_utf8 name) h in
    let second = and_parts (not (list_any (nat_eq 32) name)) (is_utf8 name) first.1 in
    record { some = first.0; whole = passes_none (nat_eq 32) name (not-true _ second.0); text = IsUtf8-from_is_utf8 name second.1 }

pub space_text : IsUtf8 (32 ∷ [])
space_text = (32 ∷ [], (refl, ap (λ bs. bs ++ []) (encode_ascii 32 (omega arith))))

-- joined words are text, and are split again
pub joined_text : (name : List ℕ) (names : List (List ℕ)) → list_all is_word (name ∷ names) ≡ true → IsUtf8 (join_with_byte 32 (name ∷ names))
joined_text name [] h = (word_parts name (and_parts (is_word name) true h).0).text
joined_text name (next ∷ names) h =
    let each = and_parts (is_word name) (list_all is_word (next ∷ names)) h in
    IsUtf8-append name (32 ∷ join_with_byte 32 (next ∷ names)) (word_parts name each.0).text
    (IsUtf8-append (32 ∷ []) (join_with_byte 32 (next ∷ names)) space_text (joined_text next names each.1))

joined_parts : (name : List ℕ) (names : List (List ℕ)) → list_all is_word (name ∷ names) ≡ true → slice_split (nat_eq 32) (join_with_byte 32 (name ∷ names)) ≡ name ∷ names
joined_parts name [] h = slice_split_none (nat_eq 32) name (word_parts name (and_parts (is_word name) true h).0).whole
joined_parts name (next ∷ names) h =
    let each = and_parts (is_word name) (list_all is_word (next ∷ names)) h in
    slice_split_at (nat_eq 32) name 32 (join_with_byte 32 (next ∷ names)) (word_parts name each.0).whole refl
    ∙ ap (λ rest. name ∷ rest) (joined_parts next names each.1)

not_empty : (names : List (List ℕ)) → list_all is_word names ≡ true → list_all (λ name. not (nat_eq (length name) 0)) names ≡ true
not_empty [] h = refl
not_empty (name ∷ names) h =
    let each = and_parts (is_word name) (list_all is_word names) h in
    λ i. (word_parts name each.0).some i && not_empty names each.1 i

pub read_chars : (cs : List ℕ) → filter_map element_char (map element.Char cs) ≡ cs
read_chars [] = refl
read_chars (c ∷ cs) = ap (λ rest. c ∷ rest) (read_chars cs)

-- the words of a store of words are read again
pub words_again : (names : List (List ℕ)) → list_all is_word names ≡ true → words (encode_utf8_all (chars (join_with_byte 32 names))) ≡ names
words_again [] h = ap (λ cs. words (encode_utf8_all cs)) chars-nil
words_again (name ∷ names) h =
    ap words (encodes-chars (join_with_byte 32 (name ∷ names)) (joined_text name names h))
    ∙ (ap (filter (λ word. not (nat_eq (length word) 0))) (joined_parts name names h)
    ∙ filter_whole (λ word. not (nat_eq (length word) 0)) (name ∷ names) (not_empty (name ∷ names) h))

values_plain : (values : List (List ℕ)) → find is_dictionary (map value_store values) ≡ None
values_plain [] = refl
values_plain (v ∷ values) = values_plain values

dictionary_store : (names values : List (List ℕ)) → store_elements (find is_dictionary (dictionary_stores names ++ map value_store values)) ≡ map element.Char (chars (join_with_byte 32 names))
dictionary_store [] values = ap store_elements (values_plain values) ∙ sym (ap (map element.Char) chars-nil)
dictionary_store (name ∷ names) values = refl

keys_distinct : (p : Program) → distinct_onto same_name [] (names_of p).keys ≡ (names_of p).keys
unfolding names_of
keys_distinct p = distinct_again same_name (flat_map key_names (source_items p))

read_again : (p : Program) (stores : List Store) → list_all is_word (names_of p).keys ≡ true → store_elements (find is_dictionary stores) ≡ map element.Char (chars (join_with_byte 32 (names_of p).keys)) →
    tab_dictionary stores ≡ (names_of p).keys
unfolding tab_dictionary
read_again p stores h e =
    ap (λ es. distinct_onto same_name [] (words (encode_utf8_all (filter_map element_char es)))) e
    ∙ (ap (λ cs. distinct_onto same_name [] (words (encode_utf8_all cs))) (read_chars (chars (join_with_byte 32 (names_of p).keys)))
    ∙ (ap (distinct_onto same_name []) (words_again (names_of p).keys h)
    ∙ keys_distinct p))

pub dictionary-same : (p : Program) (t : Tables) → IsWellNamed p → Compiles p t → (tab t).dictionary ≡ (src p).dictionary
dictionary-same p t ok c =
    let added = dictionary_stores (names_of p).keys ++ map value_store (values_of p) in
    tab_names t
    ∙ (read_again p t.stores ok.words
    (ap (λ stores. store_elements (find is_dictionary stores)) c.stores
    ∙ (ap store_elements (find-append is_dictionary (stores_of p) added)
    ∙ (ap (λ o. store_elements (option_or o (find is_dictionary added))) (finds_none is_dictionary (stores_of p) ok.stores)
    ∙ dictionary_store (names_of p).keys (values_of p))))
    ∙ sym (src_dictionary p))

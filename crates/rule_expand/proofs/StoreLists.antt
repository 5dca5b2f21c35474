-- The stores of statements one after the other, and the text of the key dictionary.
use Rattle.std.proofs.Common.{◌≡◌, ℕ, zero, suc, ◌+◌, ◌<◌, true, List, [], ◌∷◌, ◌++◌, append_assoc, length, map, take, drop, get_or, Some, None, nat_eq, refl, sym, ap, ◌∙◌, arith, if◌then◌else◌}
use Rattle.std.specs.Prelude.{slice_get}
use Rattle.std.specs.List.{list_all, join_with_byte}
use Rattle.std.proofs.lemmas.Bool.Decides.{nat_tests}
use Rattle.std.proofs.lemmas.List.{drop_more, take_all, take_more, length-take, map-append}
use Rattle.std.proofs.lemmas.Option.{slice_get_within, get_or_from_slice_get, none-some}
use Rattle.kmn_base.proofs.DecodedTexts.{decoded_text}
use Rattle.virtual_keys.specs.Dictionary.{name_in}
use Rattle.virtual_keys.proofs.NamePlaces.{past, name_read}
use Rattle.kmn_base.specs.Texts.{decoded}
use Rattle.rule_model.specs.declared.program.StoreDef.{StoreDef}
use Rattle.rule_model.specs.declared.tables.Store.{Store}
use Rattle.rule_model.specs.Naming.{SourceNames, is_dropped, store_of, stores_onto}
use Rattle.store_table.specs.Names.{store_names as kept_names}
use Rattle.store_table.proofs.Naming.{names_onto}
use Rattle.rule_model.specs.Src.{value_elements}
use Rattle.compile_laws.specs.Numbers.{dictionary_stores, value_store}
use Rattle.compile_laws.specs.WellNamed.{is_word}
use Rattle.compile_laws.proofs.Dictionary.{joined_text}
use Rattle.rule_expand.specs.Lookups.{store_names, BeginWith}

-- one store statement more
pub next_store : (names : SourceNames) (made : List Store) (stores : List StoreDef) (i : ℕ) (store : StoreDef) → i < length stores → store ≡ get_or stores i store
    → stores_onto names made (drop i stores) ≡ stores_onto names (stores_onto names made (store ∷ [])) (drop (i + 1) stores)
next_store names made stores i store h e =
    ap (stores_onto names made) (drop_more stores i store h ∙ ap (λ s. s ∷ drop (i + 1) stores) (sym e))

-- the stores made so far are the first ones
pub first_stores : (names : SourceNames) (lists : List (List ℕ)) (made : List Store) (stores rest : List StoreDef) → BeginWith (stores_onto names [] stores) lists
    → stores_onto names made rest ≡ stores_onto names [] stores → BeginWith made lists
first_stores names lists made stores rest first so_far =
    record {
      rest = kept_names rest ++ first.rest;
      is =
          first.is
          ∙ ap (λ (ss : List Store). store_names ss ++ first.rest) (sym so_far)
          ∙ ap (λ ns. ns ++ first.rest) (names_onto names made rest)
          ∙ append_assoc (store_names made) (kept_names rest) first.rest;
    }

onto_parted : (names : SourceNames) (before : List Store) (k : ℕ) (stores : List StoreDef) → stores_onto names (stores_onto names before (take k stores)) (drop k stores) ≡ stores_onto names before stores
onto_parted names before zero stores = refl
onto_parted names before (suc k) [] = refl
onto_parted names before (suc k) (store ∷ stores) = onto_parted names (if is_dropped store then before else before ++ store_of names before store ∷ []) k stores

-- so are the stores of the first statements
pub first_statements : (names : SourceNames) (lists : List (List ℕ)) (stores : List StoreDef) (k : ℕ) → BeginWith (stores_onto names [] stores) lists
    → BeginWith (stores_onto names [] (take k stores)) lists
first_statements names lists stores k first = first_stores names lists (stores_onto names [] (take k stores)) stores (drop k stores) first (onto_parted names [] k stores)

length-take_within : {X : Type 0} (xs : List X) (i : ℕ) → i < length xs → length (take i xs) ≡ i
length-take_within xs i h = omega (arith, length-take i xs)

later_name : (n : ℕ) (name : List ℕ) → (if nat_eq (suc n) 0 then name else 32 ∷ name) ≡ 32 ∷ name
later_name n name = grind (arith, nat_tests)

-- if a value is at a place, the value stores up to and including the place end with its store
pub values_more : (values : List (List ℕ)) (place : ℕ) (value : List ℕ) → slice_get values place ≡ Some value
    → map value_store (take (place + 1) values) ≡ map value_store (take place values) ++ value_store value ∷ []
values_more values place value e =
    ap (map value_store) (take_more values place value (slice_get_within values place value e) ∙ ap (λ v. take place values ++ v ∷ []) (get_or_from_slice_get values place value value e))
    ∙ map-append value_store (take place values) (value ∷ [])

-- one value store more
pub value_step : (stores old new : List Store) (values : List (List ℕ)) (place : ℕ) (value : List ℕ) (made : Store)
    → Some value ≡ slice_get values place → made ≡ value_store value → old ≡ stores ++ map value_store (take place values) → new ≡ old ++ made ∷ []
    → new ≡ stores ++ map value_store (take (place + 1) values)
value_step stores old new values place value made found is so_far pushed =
    pushed
    ∙ ((λ j. so_far j ++ is j ∷ [])
    ∙ (append_assoc stores (map value_store (take place values)) (value_store value ∷ [])
    ∙ ap (λ more. stores ++ more) (sym (values_more values place value (sym found)))))

-- joining names with a further name appends the name, and a space before it unless it is the first
joined_behind : (names : List (List ℕ)) (name : List ℕ) → join_with_byte 32 (names ++ name ∷ []) ≡ join_with_byte 32 names ++ (if nat_eq (length names) 0 then name else 32 ∷ name)
joined_behind [] name = refl
joined_behind (first ∷ []) name = refl
joined_behind (first ∷ next ∷ names) name =
    ap (λ text. first ++ (32 ∷ text)) (joined_behind (next ∷ names) name ∙ ap (λ text. join_with_byte 32 (next ∷ names) ++ text) (later_name (length names) name))
    ∙ (sym (append_assoc first (32 ∷ join_with_byte 32 (next ∷ names)) (32 ∷ name))
    ∙ ap (λ text. join_with_byte 32 (first ∷ next ∷ names) ++ text) (sym (later_name (suc (length names)) name)))

pub joined_more : (names : List (List ℕ)) (place : ℕ) (name : List ℕ) → name_in names (256 + place) ≡ Some name
    → join_with_byte 32 (take (place + 1) names) ≡ join_with_byte 32 (take place names) ++ (if nat_eq place 0 then name else 32 ∷ name)
joined_more names place name e =
    let here : slice_get names place ≡ Some name = sym (name_read names place) ∙ e in
    let within : place < length names = slice_get_within names place name here in
    let count : length (take place names) ≡ place = length-take_within names place within in
    ap (join_with_byte 32) (take_more names place name within ∙ ap (λ n. take place names ++ n ∷ []) (get_or_from_slice_get names place name name here))
    ∙ joined_behind (take place names) name
    ∙ ap (λ n. join_with_byte 32 (take place names) ++ (if nat_eq n 0 then name else 32 ∷ name)) count

pub joined_all : (names : List (List ℕ)) (place : ℕ) → name_in names (256 + place) ≡ None → take place names ≡ names
joined_all names place e = take_all place names (past names place (sym (name_read names place) ∙ e))

-- the store of a dictionary with a name, and without one
pub dictionary_text : (names : List (List ℕ)) (name : List ℕ) → list_all is_word names ≡ true → name_in names 256 ≡ Some name
    → dictionary_stores names ≡ record { system = 34; name = []; elements = value_elements (decoded (join_with_byte 32 names)) } ∷ []
dictionary_text [] name words e = absurd (none-some name e)
dictionary_text (first ∷ names) name words e =
    ap (λ cs. record { system = 34; name = []; elements = value_elements cs } ∷ []) (sym (decoded_text (join_with_byte 32 (first ∷ names)) (joined_text first names words)))

pub dictionary_none : (names : List (List ℕ)) → name_in names 256 ≡ None → dictionary_stores names ≡ []
dictionary_none [] e = refl
dictionary_none (first ∷ names) e = absurd (none-some first (sym e))

pub dictionary_count : (names : List (List ℕ)) (name : List ℕ) → name_in names 256 ≡ Some name → length (dictionary_stores names) ≡ 1
dictionary_count [] name e = absurd (none-some name e)
dictionary_count (first ∷ names) name e = refl

-- The numbers of stores and elements that the text of playable tables compiles to fit in 32 bits.
use Rattle.std.proofs.Common.{◌≡◌, ℕ, zero, suc, ◌+◌, ◌*◌, ◌<◌, ◌≤◌, ◌^◌, Bool, true, false, List, [], ◌∷◌, ◌++◌, ◌||◌, ◌-◌, length, map, Option, refl, sym, subst, ap, arith, length-append, if◌then◌else◌}
use Rattle.std.specs.Prelude.{All, filter_map, flat_map, fold, max, sum, nat_eq, slice_get, unwrap_or, None, is_some}
use Rattle.std.specs.List.{list_any, AllByRecursion, IsDistinct}
use Rattle.std.specs.Set.{is_member}
use Rattle.std.specs.Str.{bytes_eq}
use Rattle.std.proofs.lemmas.Cmp.{nat_list_eq_equiv}
use Rattle.std.proofs.lemmas.List.{length-map}
use Rattle.std.proofs.lemmas.List.Elements.{All-nil, All-cons, All-head, All-tail}
use Rattle.std.proofs.lemmas.List.Sums.{sum_by-cons, sum_by-append}
use Rattle.std.proofs.lemmas.Map.Keys.{IsDistinct-head, IsDistinct-tail, IsDistinct-cons, IsDistinct-from_apart}
use Rattle.std.proofs.lemmas.Map.Made.{length-le_from_is_member}
use Rattle.std.proofs.lemmas.Slice.Eq.{bytes_eq-Decides}
use Rattle.std.proofs.lemmas.Bool.{or_parts}
use Rattle.kmn_base.specs.declared.limits.TheConstants.{STORE_ELEMENTS}
use Rattle.kmn_base.proofs.StandingItems.{listed}
use Rattle.rule_model.specs.declared.tables.Store.{Store}
use Rattle.rule_model.specs.declared.tables.Tables.{Tables}
use Rattle.rule_model.specs.Tab.{distinct_onto, element_char, elements_of as elements_at, tab_dictionary}
use Rattle.kmx_format.specs.Playable.{IsPlayable}
use Rattle.kmx_format.specs.Writable.{elements_of}
use Rattle.rule_checker.proofs.Lists.{All-distinct}
use Rattle.decompile_program.specs.Marks.{greatest_mark, table_marks}
use Rattle.decompile_program.specs.Items.{Names, value_called}
use Rattle.kmx_format.specs.Versions.{version_text, version_numbers}
use Rattle.decompile_program.specs.Back.{names_for}
use Rattle.decompile_program.specs.WrittenOut.{table_values}
use Rattle.decompile_program.proofs.Choosing.{all_join}
use Rattle.decompile_program.proofs.SmallMarks.{IsSmall, small_marks}
use Rattle.kmx_decompiler.proofs.DictionarySizes.{total, dictionary-total}
use Rattle.kmx_decompiler.proofs.ShortValues.{IsShortValue, values_short}
use Rattle.kmx_decompiler.proofs.Refusing.{few_keys}
use Rattle.kmx_decompiler.specs.Counting.{some_length, called_lengths, spaced_size, joined_length, text_lengths}
use Rattle.kmx_decompiler.specs.Values.{with_values}
use Rattle.kmx_decompiler.proofs.TextValues.{text_values}
use Rattle.kmx_decompiler.proofs.ValueSets.{all_values}

version-few : (tables : Tables) → IsPlayable tables → length (version_text tables.version) ≤ 4
version-few tables can =
    listed (λ (v : ℕ). length (version_text v) ≤ 4)
    version_numbers tables.version
    (three, (three, (three, (three, (four, (four, (four, (four, (four, tt))))))))) can.version
  where
    three : 3 ≤ 4
    three = omega arith

    four : 4 ≤ 4
    four = omega arith

fold-small : (xs : List ℕ) (a : ℕ) → a < 2 ^ 16 → AllByRecursion IsSmall xs → fold max a xs < 2 ^ 16
fold-small [] a small h = small
fold-small (x ∷ xs) a small h = let here = h.0 in fold-small xs (max a x) (omega (arith, small, here)) h.1

mark-small : (tables : Tables) → IsPlayable tables → greatest_mark tables < 2 ^ 16
mark-small tables can = fold-small (table_marks tables) 0 (omega arith) (small_marks tables can)

-- there are at most `stores` lengths, and their sum is at most `elements`
record AreWithin (stores elements : ℕ) (ns : List ℕ) : Type 0 where
  stores_within : length ns ≤ stores
  elements_within : sum ns ≤ elements

none-within : AreWithin 0 0 []
none-within = record { stores_within = omega arith; elements_within = omega arith }

more-within : (n stores elements : ℕ) (ns : List ℕ) → AreWithin stores elements ns → AreWithin (suc stores) (n + elements) (n ∷ ns)
more-within n stores elements ns h =
    let a = h.stores_within in
    let b = h.elements_within in
    let all : sum (n ∷ ns) ≡ n + sum ns = sum_by-cons (λ m. m) n ns in
    record { stores_within = omega (arith, a); elements_within = omega (arith, b, all) }

both-within : (s t e f : ℕ) (ns ms : List ℕ) → AreWithin s e ns → AreWithin t f ms → AreWithin (s + t) (e + f) (ns ++ ms)
both-within s t e f ns ms h k =
    let a = h.stores_within in
    let b = h.elements_within in
    let c = k.stores_within in
    let d = k.elements_within in
    let lengths = length-append ns ms in
    let all : sum (ns ++ ms) ≡ sum ns + sum ms = sum_by-append (λ m. m) ns ms in
    record { stores_within = omega (arith, a, c, lengths); elements_within = omega (arith, b, d, all) }

one-within : (b : Bool) (n stores elements : ℕ) (ns : List ℕ) → AreWithin stores elements ns → AreWithin (suc stores) (n + elements) ((if b then n ∷ [] else []) ++ ns)
one-within true n stores elements ns h = more-within n stores elements ns h
one-within false n stores elements ns h =
    let a = h.stores_within in
    let b = h.elements_within in
    record { stores_within = omega (arith, a); elements_within = omega (arith, b) }

some-within : (n : ℕ) → AreWithin 1 n (some_length n)
some-within n = by (nat_eq n 0)
  where
    by : (b : Bool) → AreWithin 1 n (if b then [] else n ∷ [])
    by true = record { stores_within = omega arith; elements_within = omega arith }
    by false =
        let all : sum (n ∷ []) ≡ n + sum [] = sum_by-cons (λ m. m) n [] in
        record { stores_within = omega arith; elements_within = omega (arith, all) }

called-within : (calls : List (Option (List ℕ))) (n : ℕ) (stores : List Store) → AreWithin (length stores) (length (flat_map elements_of stores)) (called_lengths calls n stores)
called-within calls n [] = none-within
called-within calls n (store ∷ stores) =
    subst (λ (elements : ℕ). AreWithin (suc (length stores)) elements (called_lengths calls n (store ∷ stores))) (sym (length-append store.elements (flat_map elements_of stores)))
    (one-within (is_some (unwrap_or (slice_get calls n) None)) (length store.elements) (length stores) (length (flat_map elements_of stores)) (called_lengths calls (n + 1) stores)
    (called-within calls (n + 1) stores))

joined-within : (names : List (List ℕ)) → AreWithin 1 (spaced_size names) (joined_length names)
joined-within [] = record { stores_within = omega arith; elements_within = omega arith }
joined-within (name ∷ names) =
    let n : ℕ = spaced_size (name ∷ names) - 1 in
    let all : sum (n ∷ []) ≡ n + sum [] = sum_by-cons (λ m. m) n [] in
    record { stores_within = omega arith; elements_within = omega (arith, all) }

spaced-is : (names : List (List ℕ)) → spaced_size names ≡ total names
spaced-is [] = omega arith
spaced-is (name ∷ names) = let rest = spaced-is names in omega (arith, rest)

spaced-few : (tables : Tables) → IsPlayable tables → spaced_size (tab_dictionary tables.stores) ≤ suc STORE_ELEMENTS
spaced-few tables can =
    let is = spaced-is (tab_dictionary tables.stores) in
    let few = dictionary-total tables can in
    omega (arith, is, few)

pub few_characters : (tables : Tables) → IsPlayable tables → spaced_size (tab_dictionary tables.stores) < 2 ^ 32
few_characters tables can = let few = spaced-few tables can in omega (arith, few)

-- ---- values

none-distinct : IsDistinct bytes_eq []
none-distinct = IsDistinct-from_apart bytes_eq [] (λ i j d h k. absurd (omega (arith, k)))

distinct-more : (seen : List (List ℕ)) (x : List ℕ) → list_any (λ y. bytes_eq y x) seen ≡ false → IsDistinct bytes_eq seen → IsDistinct bytes_eq (seen ++ x ∷ [])
distinct-more [] x fresh h = IsDistinct-cons bytes_eq x [] tt none-distinct
distinct-more (y ∷ seen) x fresh h =
    let parts = or_parts (bytes_eq y x) (list_any (λ z. bytes_eq z x) seen) fresh in
    IsDistinct-cons bytes_eq y (seen ++ x ∷ []) (all_join (λ z. bytes_eq y z ≡ false) seen (x ∷ []) (IsDistinct-head bytes_eq y seen h) (parts.0, tt))
    (distinct-more seen x parts.1 (IsDistinct-tail bytes_eq y seen h))

distinct-kept : (seen xs : List (List ℕ)) → IsDistinct bytes_eq seen → IsDistinct bytes_eq (distinct_onto bytes_eq seen xs)
distinct-kept seen [] h = h
distinct-kept seen (x ∷ xs) h = distinct-kept (if list_any (λ y. bytes_eq y x) seen then seen else seen ++ x ∷ []) xs (by (list_any (λ y. bytes_eq y x) seen) refl)
  where
    by : (b : Bool) → list_any (λ y. bytes_eq y x) seen ≡ b → IsDistinct bytes_eq (if b then seen else seen ++ x ∷ [])
    by true e = h
    by false e = distinct-more seen x e h

-- a value is one of a list
abbrev IsAmong : List (List ℕ) → List ℕ → Type 0
IsAmong all value = is_member bytes_eq all value ≡ true

among-all : (all xs : List (List ℕ)) → All (IsAmong all) xs → (q : List ℕ) → is_member bytes_eq xs q ≡ true → IsAmong all q
among-all all [] h q e = absurd (cc)
among-all all (x ∷ xs) h q e = by (bytes_eq q x) refl (λ k. among-all all xs (All-tail (IsAmong all) x xs h) q k) e
  where
    by : (b : Bool) → bytes_eq q x ≡ b → (is_member bytes_eq xs q ≡ true → IsAmong all q) → (b || is_member bytes_eq xs q) ≡ true → IsAmong all q
    by true same rest e = subst (IsAmong all) (sym ((bytes_eq-Decides q x).0 same)) (All-head (IsAmong all) x xs h)
    by false other rest e = rest e

-- the characters of a store
abbrev characters : Store → List ℕ
characters store = filter_map element_char store.elements

here-among : (a b c : Bool) → b ≡ true → (a || (b || c)) ≡ true
here-among true b c e = refl
here-among false true c e = refl
here-among false false c e = absurd (cc)

behind-among : (a b c : Bool) → (a || c) ≡ true → (a || (b || c)) ≡ true
behind-among true b c e = refl
behind-among false true c e = refl
behind-among false false c e = e

value-among : (stores : List Store) (n : ℕ) → IsAmong ([] ∷ map characters stores) (filter_map element_char (elements_at stores n))
value-among [] n = refl
value-among (store ∷ stores) zero =
    here-among (bytes_eq (characters store) []) (bytes_eq (characters store) (characters store)) (list_any (bytes_eq (characters store)) (map characters stores))
    ((bytes_eq-Decides (characters store) (characters store)).1 refl)
value-among (store ∷ stores) (suc n) =
    let value : List ℕ = filter_map element_char (elements_at stores n) in
    behind-among (bytes_eq value []) (bytes_eq value (characters store)) (list_any (bytes_eq value) (map characters stores)) (value-among stores n)

values-among : (names : Names) (ns : List ℕ) → All (IsAmong ([] ∷ map characters names.elements)) (map (value_called names) ns)
values-among names [] = All-nil (IsAmong ([] ∷ map characters names.elements))
values-among names (n ∷ ns) =
    All-cons (IsAmong ([] ∷ map characters names.elements)) (value_called names n) (map (value_called names) ns) (value-among names.elements n) (values-among names ns)

-- there are at most as many values as stores, plus one value without characters
values-few : (names : Names) (ns : List ℕ) → length (with_values names [] ns) ≤ suc (length names.elements)
values-few names ns =
    let all : List (List ℕ) = [] ∷ map characters names.elements in
    let values : List (List ℕ) = distinct_onto bytes_eq [] (map (value_called names) ns) in
    let among : All (IsAmong all) values = All-distinct (IsAmong all) bytes_eq [] (map (value_called names) ns) (All-nil (IsAmong all)) (values-among names ns) in
    let few : length values ≤ length all = length-le_from_is_member nat_list_eq_equiv values all (distinct-kept [] (map (value_called names) ns) none-distinct) (among-all all values among) in
    let are = ap length (all_values names [] ns) in
    let stores = length-map names.elements characters in
    omega (arith, few, are, stores)

lengths-within : (values : List (List ℕ)) → AllByRecursion IsShortValue values → sum (map length values) ≤ 65535 * length values
lengths-within [] h = omega arith
lengths-within (value ∷ values) h =
    let here = h.0 in
    let rest = lengths-within values h.1 in
    let all : sum (length value ∷ map length values) ≡ length value + sum (map length values) = sum_by-cons (λ m. m) (length value) (map length values) in
    omega (arith, here, rest, all)

values-within : (tables : Tables) → IsPlayable tables → AreWithin 20001 1310765535 (map length (with_values (names_for tables) [] (table_values tables)))
values-within tables can =
    let values : List (List ℕ) = with_values (names_for tables) [] (table_values tables) in
    let few = values-few (names_for tables) (table_values tables) in
    let stores = can.store_count in
    let lengths = length-map values (λ (value : List ℕ). length value) in
    let all = lengths-within values (subst (AllByRecursion IsShortValue) (text_values tables) (values_short tables can)) in
    record { stores_within = omega (arith, few, stores, lengths); elements_within = omega (arith, few, stores, all) }

-- ---- all stores

all-within : (tables : Tables) → IsPlayable tables
    → AreWithin (suc (1 + (1 + (length tables.stores + (1 + 20001)))))
    (length (version_text tables.version) + (greatest_mark tables + (length (tab_dictionary tables.stores)
    + (length (flat_map elements_of tables.stores) + (spaced_size (tab_dictionary tables.stores) + 1310765535)))))
    (text_lengths tables)
all-within tables can =
    let keys : List (List ℕ) = tab_dictionary tables.stores in
    more-within (length (version_text tables.version)) _ _ _
    (both-within _ _ _ _ (some_length (greatest_mark tables)) _ (some-within (greatest_mark tables))
    (both-within _ _ _ _ (some_length (length keys)) _ (some-within (length keys))
    (both-within _ _ _ _ (called_lengths (names_for tables).stores 0 tables.stores) _ (called-within (names_for tables).stores 0 tables.stores)
    (both-within _ _ _ _ (joined_length keys) _ (joined-within keys) (values-within tables can)))))

pub few_lengths : (tables : Tables) → IsPlayable tables → length (text_lengths tables) ≤ 0xFFFF_FFFF
few_lengths tables can =
    let all = (all-within tables can).stores_within in
    let stores = can.store_count in
    omega (arith, all, stores)

pub few_in_all : (tables : Tables) → IsPlayable tables → sum (text_lengths tables) ≤ 0xFFFF_FFFF
few_in_all tables can =
    let all = (all-within tables can).elements_within in
    let version = version-few tables can in
    let mark = mark-small tables can in
    let keys = few_keys tables can in
    let elements = can.element_count in
    let names = spaced-few tables can in
    omega (arith, all, version, mark, keys, elements, names)

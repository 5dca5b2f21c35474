-- The saturating counts of stores count their elements, and the records of a rule whose key is one of a store.
use Rattle.std.proofs.Common.{◌≡◌, ℕ, suc, ◌+◌, Bool, true, false, cond, List, [], ◌∷◌, ◌++◌, length, map, Option, Some, None, refl, sym, ap, ◌∙◌, arith, if◌then◌else◌, length-append}
use Rattle.std.specs.Prelude.{◌&&◌, not, sum, fold, flat_map, filter, find, option_map}
use Rattle.std.proofs.lemmas.List.{map-append}
use Rattle.std.proofs.lemmas.List.Sums.{sum_by-append}
use Rattle.kmn_base.specs.declared.items.Element.{Element}
use Rattle.kmn_base.specs.Names.{same_name}
use Rattle.virtual_keys.specs.Dictionary.{place_in}
use Rattle.virtual_keys.specs.Fits.{has, caps, no_caps}
use Rattle.rule_model.specs.declared.program.KeyName.{KeyName}
use Rattle.rule_model.specs.declared.program.SrcItem.{SrcItem}
use Rattle.rule_model.specs.declared.program.SrcItem.TheVariants as source
use Rattle.rule_model.specs.declared.program.StoreDef.{StoreDef}
use Rattle.rule_model.specs.declared.program.Program.{Program}
use Rattle.rule_model.specs.declared.tables.Store.{Store}
use Rattle.rule_model.specs.Tab.{store_elements}
use Rattle.rule_model.specs.Naming.{SourceNames, names_of, stores_of, stores_onto, store_of, is_dropped, item_elements, elements_named, key_number}
use Rattle.rule_model.specs.Src.{cased_keys}
use Rattle.rule_checker.specs.declared.counting.StoreCounts.{StoreCounts}
use Rattle.rule_checker.specs.KeyCodes.{is_table_code, has_code}
use Rattle.rule_checker.specs.Cased.{codes_of_cased}
use Rattle.rule_checker.specs.Counting.{capped, count_at, count_named, records_named, virtual_count_of, count_of, records_of, output_count_of, total, with_store, with_stores, no_counts}
use Rattle.rule_checker.specs.Limits.{item_size, output_size, virtual_count, element_count}
use Rattle.rule_checker.proofs.CasedCodes.{is_among, number_is_among, program_codes}
use Rattle.virtual_keys.proofs.NamePlaces.{position_cons, same_either_way}

pub from_zero : (n : ℕ) → 0 + n ≡ n
from_zero n = omega arith

-- the number of records of a rule whose key is one of these elements
abbrev pub records_size : List ℕ → List Element → ℕ
records_size cased elements = sum (map (element_count cased) elements)

-- whether counts are the counts of stores, and the cased codes are the codes of the key table among these codes
pub record AreCounts (counted : StoreCounts) (codes : List ℕ) (stores : List Store) : Type 0 where
  pub cased : (code : ℕ) → has_code counted.cased code ≡ is_among codes code
  pub names : counted.names ≡ map (λ (s : Store). s.name) stores
  pub counts : counted.counts ≡ map (λ (s : Store). capped (length s.elements)) stores
  pub records : counted.records ≡ map (λ (s : Store). capped (records_size (filter is_table_code codes) s.elements)) stores

-- the size of the elements of a store, or 0 if there is no store
abbrev size_in : (List Element → ℕ) → Option Store → ℕ
size_in size None = 0
size_in size (Some s) = capped (size s.elements)

size_later : (size : List Element → ℕ) (here : Bool) (s : Store) (counts : List ℕ) (place : Option ℕ) (found : Option Store) → count_at counts place ≡ size_in size found
    → count_at (capped (size s.elements) ∷ counts) (cond here (Some 0) (option_map suc place)) ≡ size_in size (cond here (Some s) found)
size_later size true s counts place found h = refl
size_later size false s counts None found h = h
size_later size false s counts (Some n) found h = h

found_size : (size : List Element → ℕ) (stores : List Store) (name : List ℕ)
    → count_at (map (λ (s : Store). capped (size s.elements)) stores) (place_in (map (λ (s : Store). s.name) stores) name) ≡ size_in size (find (λ (s : Store). same_name s.name name) stores)
found_size size [] name = refl
found_size size (s ∷ stores) name =
    ap (count_at (map (λ (t : Store). capped (size t.elements)) (s ∷ stores)))
    (position_cons (same_name name) s.name (map (λ (t : Store). t.name) stores) ∙ ap (λ b. cond b (Some 0) (option_map suc (place_in (map (λ (t : Store). t.name) stores) name))) (same_either_way name s.name))
    ∙ size_later size (same_name s.name name) s (map (λ (t : Store). capped (size t.elements)) stores) (place_in (map (λ (t : Store). t.name) stores) name) (find (λ (t : Store). same_name t.name name) stores) (found_size size stores name)

size_elements : (size : List Element → ℕ) → size [] ≡ 0 → (found : Option Store) → size_in size found ≡ capped (size (store_elements found))
size_elements size none None = ap capped (sym none)
size_elements size none (Some s) = refl

-- the count of a name is the number of elements of its store
pub named_count : (counted : StoreCounts) (codes : List ℕ) (stores : List Store) (name : List ℕ) → AreCounts counted codes stores → count_named counted name ≡ capped (length (elements_named stores name))
named_count counted codes stores name are =
    (λ j. count_at (are.counts j) (place_in (are.names j) name)) ∙ found_size length stores name ∙ size_elements length refl (find (λ (s : Store). same_name s.name name) stores)

-- the record count of a name is the number of records of a rule whose key is one of its store
pub named_records : (counted : StoreCounts) (codes : List ℕ) (stores : List Store) (name : List ℕ) → AreCounts counted codes stores
    → records_named counted name ≡ capped (records_size (filter is_table_code codes) (elements_named stores name))
named_records counted codes stores name are =
    let size = records_size (filter is_table_code codes) in
    (λ j. count_at (are.records j) (place_in (are.names j) name)) ∙ found_size size stores name ∙ size_elements size refl (find (λ (s : Store). same_name s.name name) stores)

-- the record count of a key is the number of records that the limits count for it
one_or_two : (b c : Bool) → b ≡ c → (if b then 2 else 1) ≡ capped (if c then 2 else 1)
one_or_two true c e = ap (λ d. capped (if d then 2 else 1)) e
one_or_two false c e = ap (λ d. capped (if d then 2 else 1)) e

pub virtual_counted : (counted : StoreCounts) (codes : List ℕ) (stores : List Store) (key : KeyName) (code : ℕ) → AreCounts counted codes stores → is_among codes code ≡ is_among codes key.code
    → virtual_count_of counted key ≡ capped (virtual_count (filter is_table_code codes) key.flags code)
virtual_counted counted codes stores key code are same =
    let leaves = not (has key.flags caps) && not (has key.flags no_caps) in
    one_or_two (has_code counted.cased key.code && leaves) (is_among codes code && leaves) (ap (λ b. b && leaves) (are.cased key.code ∙ sym same))

item_count : (names : SourceNames) (counted : StoreCounts) (codes : List ℕ) (stores : List Store) → AreCounts counted codes stores → (item : SrcItem) → count_of counted item ≡ capped (length (item_elements names stores item))
item_count names counted codes stores are (source.Char c) = refl
item_count names counted codes stores are (source.Dead name) = refl
item_count names counted codes stores are (source.Key key) = refl
item_count names counted codes stores are (source.Outs name) = named_count counted codes stores name are
item_count names counted codes stores are item = refl

item_records : (names : SourceNames) (counted : StoreCounts) (codes : List ℕ) (stores : List Store) → AreCounts counted codes stores → (item : SrcItem)
    → records_of counted item ≡ capped (records_size (filter is_table_code codes) (item_elements names stores item))
item_records names counted codes stores are (source.Char c) = refl
item_records names counted codes stores are (source.Dead name) = refl
item_records names counted codes stores are (source.Key key) =
    virtual_counted counted codes stores key (key_number names key) are (number_is_among names key codes) ∙ ap capped (sym (from_zero (virtual_count (filter is_table_code codes) key.flags (key_number names key))))
item_records names counted codes stores are (source.Outs name) = named_records counted codes stores name are
item_records names counted codes stores are item = refl

no_more : (sum : ℕ) → capped sum ≡ capped (sum + 0)
no_more sum = omega arith

pub one_more : (sum a : ℕ) → capped (capped sum + capped a) ≡ capped (sum + a)
one_more sum a = omega arith

-- the sum of the counts of items is the size of the elements that they add
sizes_total : (size : List Element → ℕ) → ((xs ys : List Element) → size (xs ++ ys) ≡ size xs + size ys) → size [] ≡ 0 → (count : SrcItem → ℕ) (elements : SrcItem → List Element)
    → ((item : SrcItem) → count item ≡ capped (size (elements item))) → (sum : ℕ) (items : List SrcItem) → total count (capped sum) items ≡ capped (sum + size (flat_map elements items))
sizes_total size both none count elements each sum [] = no_more sum ∙ ap (λ n. capped (sum + n)) (sym none)
sizes_total size both none count elements each sum (item ∷ items) =
    let here = size (elements item) in
    let rest = size (flat_map elements items) in
    let assoc : sum + here + rest ≡ sum + (here + rest) = omega arith in
    ap (λ n. total count (capped (capped sum + n)) items) (each item)
    ∙ ap (λ n. total count n items) (one_more sum here)
    ∙ sizes_total size both none count elements each (sum + here) items
    ∙ ap capped (assoc ∙ ap (λ n. sum + n) (sym (both (elements item) (flat_map elements items))))

pub items_count : (names : SourceNames) (counted : StoreCounts) (codes : List ℕ) (stores : List Store) → AreCounts counted codes stores → (items : List SrcItem)
    → total (count_of counted) 0 items ≡ capped (length (flat_map (item_elements names stores) items))
items_count names counted codes stores are items =
    sizes_total length length-append refl (count_of counted) (item_elements names stores) (item_count names counted codes stores are) 0 items
    ∙ ap capped (from_zero (length (flat_map (item_elements names stores) items)))

records_both : (cased : List ℕ) (xs ys : List Element) → records_size cased (xs ++ ys) ≡ records_size cased xs + records_size cased ys
records_both cased xs ys = ap sum (map-append (element_count cased) xs ys) ∙ sum_by-append (λ x. x) (map (element_count cased) xs) (map (element_count cased) ys)

items_records : (names : SourceNames) (counted : StoreCounts) (codes : List ℕ) (stores : List Store) → AreCounts counted codes stores → (items : List SrcItem)
    → total (records_of counted) 0 items ≡ capped (records_size (filter is_table_code codes) (flat_map (item_elements names stores) items))
items_records names counted codes stores are items =
    let size = records_size (filter is_table_code codes) in
    sizes_total size (records_both (filter is_table_code codes)) refl (records_of counted) (item_elements names stores) (item_records names counted codes stores are) 0 items
    ∙ ap capped (from_zero (size (flat_map (item_elements names stores) items)))

next_counts : (names : SourceNames) (counted : StoreCounts) (codes : List ℕ) (stores : List Store) (store : StoreDef) → AreCounts counted codes stores
    → AreCounts (with_store counted store) codes (if is_dropped store then stores else stores ++ store_of names stores store ∷ [])
next_counts names counted codes stores store are = by (is_dropped store)
  where
    by : (b : Bool) → AreCounts (if b then counted else record {
      cased = counted.cased;
      names = counted.names ++ store.name ∷ [];
      counts = counted.counts ++ total (count_of counted) 0 store.items ∷ [];
      records = counted.records ++ total (records_of counted) 0 store.items ∷ [];
    }) codes (if b then stores else stores ++ store_of names stores store ∷ [])
    by true = are
    by false = record {
      cased = are.cased;
      names = (λ j. are.names j ++ store.name ∷ []) ∙ sym (map-append (λ (s : Store). s.name) stores (store_of names stores store ∷ []));
      counts = (λ j. are.counts j ++ items_count names counted codes stores are store.items j ∷ []) ∙ sym (map-append (λ (s : Store). capped (length s.elements)) stores (store_of names stores store ∷ []));
      records = (λ j. are.records j ++ items_records names counted codes stores are store.items j ∷ [])
          ∙ sym (map-append (λ (s : Store). capped (records_size (filter is_table_code codes) s.elements)) stores (store_of names stores store ∷ []));
    }

counts_onto : (names : SourceNames) (counted : StoreCounts) (codes : List ℕ) (before : List Store) (stores : List StoreDef) → AreCounts counted codes before → AreCounts (with_stores counted stores) codes (stores_onto names before stores)
counts_onto names counted codes before [] are = are
counts_onto names counted codes before (store ∷ stores) are =
    counts_onto names (with_store counted store) codes (if is_dropped store then before else before ++ store_of names before store ∷ []) stores (next_counts names counted codes before store are)

-- the counts of a program's stores
pub program_counts : (program : Program) → AreCounts (with_stores (no_counts (codes_of_cased program.stores)) program.stores) (cased_keys program) (stores_of program)
unfolding stores_of
program_counts program =
    counts_onto (names_of program) (no_counts (codes_of_cased program.stores)) (cased_keys program) [] program.stores (record { cased = program_codes program; names = refl; counts = refl; records = refl })

-- the count of an output is the number of items that it expands to
output_item_count : (counted : StoreCounts) (codes : List ℕ) (stores : List Store) → AreCounts counted codes stores → (item : SrcItem) → output_count_of counted item ≡ capped (item_size stores item)
output_item_count counted codes stores are (source.Outs name) = named_count counted codes stores name are
output_item_count counted codes stores are item = refl

output_from : (counted : StoreCounts) (codes : List ℕ) (stores : List Store) → AreCounts counted codes stores → (sum : ℕ) (items : List SrcItem)
    → total (output_count_of counted) (capped sum) items ≡ capped (fold ◌+◌ sum (map (item_size stores) items))
output_from counted codes stores are sum [] = refl
output_from counted codes stores are sum (item ∷ items) =
    ap (λ n. total (output_count_of counted) (capped (capped sum + n)) items) (output_item_count counted codes stores are item)
    ∙ ap (λ n. total (output_count_of counted) n items) (one_more sum (item_size stores item))
    ∙ output_from counted codes stores are (sum + item_size stores item) items

pub output_counted : (counted : StoreCounts) (codes : List ℕ) (stores : List Store) → AreCounts counted codes stores → (items : List SrcItem) → total (output_count_of counted) 0 items ≡ capped (output_size stores items)
output_counted counted codes stores are items = output_from counted codes stores are 0 items

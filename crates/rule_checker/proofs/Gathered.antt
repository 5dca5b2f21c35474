-- What is gathered from items: each name and each value once, and their sums.
use Rattle.std.proofs.Common.{◌≡◌, ℕ, ◌+◌, Bool, true, false, List, [], ◌∷◌, ◌++◌, length, map, refl, sym, ap, ◌∙◌, arith, if◌then◌else◌}
use Rattle.std.specs.Prelude.{nat_lt, nat_eq, flat_map, sum, fold, ◌||◌}
use Rattle.std.specs.List.{list_any}
use Rattle.std.specs.Str.{bytes_eq, chars}
use Rattle.std.proofs.lemmas.List.{map-append}
use Rattle.std.proofs.lemmas.List.Folds.{list_any-append}
use Rattle.std.proofs.Math.Bool.{or-false}
use Rattle.kmn_base.specs.declared.limits.TheConstants.{STORE_ELEMENTS}
use Rattle.kmn_base.specs.Names.{same_name}
use Rattle.rule_model.specs.declared.program.SrcItem.{SrcItem}
use Rattle.rule_model.specs.declared.program.SrcItem.TheVariants as source
use Rattle.rule_model.specs.Tab.{distinct_onto}
use Rattle.rule_model.specs.Naming.{mark_names, key_names}
use Rattle.compile_laws.specs.Numbers.{item_values}
use Rattle.store_table.specs.Names.{is_named}
use Rattle.virtual_keys.proofs.NamePlaces.{with_name_new}
use Rattle.rule_checker.specs.declared.totals.Totals.{Totals}
use Rattle.rule_checker.specs.Limits.{names_size}
use Rattle.rule_checker.specs.Counting.{capped}
use Rattle.rule_checker.specs.Walking.{is_value, with_mark, with_key, with_value, with_names_of, with_names, with_value_of, with_values}
use Rattle.rule_checker.proofs.Counted.{one_more}

pub distinct_append : {X : Type 0} (same : X → X → Bool) (seen xs ys : List X) → distinct_onto same seen (xs ++ ys) ≡ distinct_onto same (distinct_onto same seen xs) ys
distinct_append same seen [] ys = refl
distinct_append same seen (x ∷ xs) ys = distinct_append same (if list_any (λ y. same y x) seen then seen else seen ++ x ∷ []) xs ys

-- the sum of a list with a further number is the sum of the list plus the number
pub fold_push : (start : ℕ) (xs : List ℕ) (x : ℕ) → fold ◌+◌ start (xs ++ x ∷ []) ≡ fold ◌+◌ start xs + x
fold_push start [] x = refl
fold_push start (y ∷ xs) x = fold_push (start + y) xs x

mapped_sum : {X : Type 0} (size : X → ℕ) (xs : List X) (x : X) → sum (map size (xs ++ x ∷ [])) ≡ sum (map size xs) + size x
mapped_sum size xs x = ap sum (map-append size xs (x ∷ [])) ∙ fold_push 0 (map size xs) (size x)

names_size_push : (names : List (List ℕ)) (name : List ℕ) → names_size (names ++ name ∷ []) ≡ names_size names + length (chars name)
names_size_push [] name = omega arith
names_size_push (n ∷ names) name = omega (arith, names_size_push names name)

pub any_push : (test : ℕ → Bool) (sizes : List ℕ) (size : ℕ) → list_any test (sizes ++ size ∷ []) ≡ (list_any test sizes || test size)
any_push test sizes size = list_any-append test sizes (size ∷ []) ∙ ap (λ b. list_any test sizes || b) (or-false (test size))

-- whether totals are the sums of the names and values that they have
pub record AreSums (totals : Totals) : Type 0 where
  pub key_characters : totals.key_characters ≡ capped (names_size totals.keys)
  pub value_elements : totals.value_elements ≡ capped (sum (map length totals.values))
  pub has_large_value : totals.has_large_value ≡ list_any (nat_lt STORE_ELEMENTS) (map length totals.values)

-- whether totals gain these marks, key names and values with their sums, and are otherwise unchanged
pub record Gains (totals now : Totals) (m k v : List (List ℕ)) : Type 0 where
  pub marks : now.marks ≡ distinct_onto same_name totals.marks m
  pub keys : now.keys ≡ distinct_onto same_name totals.keys k
  pub values : now.values ≡ distinct_onto bytes_eq totals.values v
  pub stores : now.stores ≡ totals.stores
  pub elements : now.elements ≡ totals.elements
  pub has_large_store : now.has_large_store ≡ totals.has_large_store
  pub records : now.records ≡ totals.records
  pub sums : AreSums totals → AreSums now

gains_nothing : (totals : Totals) → Gains totals totals [] [] []
gains_nothing totals = record { marks = refl; keys = refl; values = refl; stores = refl; elements = refl; has_large_store = refl; records = refl; sums = λ h. h }

pub gains_both : (a b c : Totals) (m k v n l w : List (List ℕ)) → Gains a b m k v → Gains b c n l w → Gains a c (m ++ n) (k ++ l) (v ++ w)
gains_both a b c m k v n l w one two = record {
  marks = two.marks ∙ ap (λ seen. distinct_onto same_name seen n) one.marks ∙ sym (distinct_append same_name a.marks m n);
  keys = two.keys ∙ ap (λ seen. distinct_onto same_name seen l) one.keys ∙ sym (distinct_append same_name a.keys k l);
  values = two.values ∙ ap (λ seen. distinct_onto bytes_eq seen w) one.values ∙ sym (distinct_append bytes_eq a.values v w);
  stores = two.stores ∙ one.stores;
  elements = two.elements ∙ one.elements;
  has_large_store = two.has_large_store ∙ one.has_large_store;
  records = two.records ∙ one.records;
  sums = λ h. two.sums (one.sums h);
}

mark_gains : (totals : Totals) (name : List ℕ) → Gains totals (with_mark totals name) (name ∷ []) [] []
mark_gains totals name = record {
  marks = with_name_new totals.marks name;
  keys = refl;
  values = refl;
  stores = refl;
  elements = refl;
  has_large_store = refl;
  records = refl;
  sums = λ h. record { key_characters = h.key_characters; value_elements = h.value_elements; has_large_value = h.has_large_value };
}

key_gains : (totals : Totals) (name : List ℕ) → Gains totals (with_key totals name) [] (name ∷ []) []
unfolding is_named
key_gains totals name = by (is_named totals.keys name) (with_name_new totals.keys name)
  where
    by : (b : Bool) → (if b then totals.keys else totals.keys ++ name ∷ []) ≡ distinct_onto same_name totals.keys (name ∷ [])
        → Gains totals (if b then totals else record totals { keys = totals.keys ++ name ∷ []; key_characters = capped (totals.key_characters + capped (length (chars name))) }) [] (name ∷ []) []
    by true e = record { marks = refl; keys = e; values = refl; stores = refl; elements = refl; has_large_store = refl; records = refl; sums = λ h. h }
    by false e = record {
      marks = refl;
      keys = e;
      values = refl;
      stores = refl;
      elements = refl;
      has_large_store = refl;
      records = refl;
      sums = λ h. record {
        key_characters = ap (λ n. capped (n + capped (length (chars name)))) h.key_characters ∙ one_more (names_size totals.keys) (length (chars name))
            ∙ ap capped (sym (names_size_push totals.keys name));
        value_elements = h.value_elements;
        has_large_value = h.has_large_value;
      };
    }

value_gains : (totals : Totals) (value : List ℕ) → Gains totals (with_value totals value) [] [] (value ∷ [])
value_gains totals value = by (is_value totals.values value) refl
  where
    by : (b : Bool) → (if b then totals.values else totals.values ++ value ∷ []) ≡ distinct_onto bytes_eq totals.values (value ∷ [])
        → Gains totals (if b then totals else record totals {
          values = totals.values ++ value ∷ [];
          value_elements = capped (totals.value_elements + capped (length value));
          has_large_value = totals.has_large_value || nat_lt STORE_ELEMENTS (length value);
        }) [] [] (value ∷ [])
    by true e = record { marks = refl; keys = refl; values = e; stores = refl; elements = refl; has_large_store = refl; records = refl; sums = λ h. h }
    by false e = record {
      marks = refl;
      keys = refl;
      values = e;
      stores = refl;
      elements = refl;
      has_large_store = refl;
      records = refl;
      sums = λ h. record {
        key_characters = h.key_characters;
        value_elements = ap (λ n. capped (n + capped (length value))) h.value_elements ∙ one_more (sum (map length totals.values)) (length value)
            ∙ ap capped (sym (mapped_sum (length {A = ℕ}) totals.values value));
        has_large_value = ap (λ b. b || nat_lt STORE_ELEMENTS (length value)) h.has_large_value
            ∙ sym (ap (list_any (nat_lt STORE_ELEMENTS)) (map-append (length {A = ℕ}) totals.values (value ∷ [])) ∙ any_push (nat_lt STORE_ELEMENTS) (map length totals.values) (length value));
      };
    }

names_of_gain : (totals : Totals) (item : SrcItem) → Gains totals (with_names_of totals item) (mark_names item) (key_names item) []
names_of_gain totals (source.Dead name) = mark_gains totals name
names_of_gain totals (source.Key key) = by (nat_eq key.code 0)
  where
    by : (b : Bool) → Gains totals (if b then with_key totals key.name else totals) [] (if b then key.name ∷ [] else []) []
    by true = key_gains totals key.name
    by false = gains_nothing totals
names_of_gain totals item = gains_nothing totals

-- the names of items
pub names_gain : (totals : Totals) (items : List SrcItem) → Gains totals (with_names totals items) (flat_map mark_names items) (flat_map key_names items) []
names_gain totals [] = gains_nothing totals
names_gain totals (item ∷ items) =
    gains_both totals (with_names_of totals item) (with_names (with_names_of totals item) items) (mark_names item) (key_names item) []
    (flat_map mark_names items) (flat_map key_names items) [] (names_of_gain totals item) (names_gain (with_names_of totals item) items)

value_of_gains : (totals : Totals) (item : SrcItem) → Gains totals (with_value_of totals item) [] [] (item_values item)
value_of_gains totals (source.Equal store value) = value_gains totals value
value_of_gains totals (source.Unequal store value) = value_gains totals value
value_of_gains totals (source.SystemEqual id value) = value_gains totals value
value_of_gains totals (source.SystemUnequal id value) = value_gains totals value
value_of_gains totals (source.Set store value) = value_gains totals value
value_of_gains totals (source.SetSystem id value) = value_gains totals value
value_of_gains totals item = gains_nothing totals

-- the values of items
pub values_gain : (totals : Totals) (items : List SrcItem) → Gains totals (with_values totals items) [] [] (flat_map item_values items)
values_gain totals [] = gains_nothing totals
values_gain totals (item ∷ items) =
    gains_both totals (with_value_of totals item) (with_values (with_value_of totals item) items) [] [] (item_values item)
    [] [] (flat_map item_values items) (value_of_gains totals item) (values_gain (with_value_of totals item) items)

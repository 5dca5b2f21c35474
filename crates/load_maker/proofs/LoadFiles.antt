-- The file of a load: the number of its rules and of its bytes.
use Rattle.std.proofs.Common.{◌≡◌, ℕ, zero, suc, ◌+◌, ◌*◌, ◌<◌, ◌≤◌, List, [], ◌∷◌, ◌++◌, length, map, codes, refl, ap, sym, ◌∙◌, append-nil, length-append, arith}
use Rattle.std.specs.Prelude.{filter, find, flat_map}
use Rattle.std.specs.Str.{bytes_eq, chars}
use Rattle.std.proofs.lemmas.List.Concat.{length-flat_map}
use Rattle.std.proofs.lemmas.List.Sorted.{length_permutation, sum_by-IsPermutation}
use Rattle.kmn_base.specs.declared.units.UnitItem.TheVariants as spelled
use Rattle.rule_model.specs.declared.program.RuleDef.{RuleDef}
use Rattle.rule_model.specs.declared.tables.Rule.{Rule}
use Rattle.rule_model.specs.declared.tables.Store.{Store}
use Rattle.rule_model.specs.declared.tables.Tables.{Tables}
use Rattle.rule_model.specs.Naming.{rule_items, stores_of}
use Rattle.rule_model.specs.Src.{cased_keys, is_plain, is_on_match, is_on_nomatch}
use Rattle.rule_model.specs.Tab.{distinct_onto}
use Rattle.kmx_format.specs.File.{all_rules, file_of, group_strings, rule_strings, store_strings, string}
use Rattle.kmx_format.specs.FileUnits.{item_units, name_units, output_units}
use Rattle.kmx_format.proofs.FileItems.{char_units_low}
use Rattle.kmx_format.proofs.FileLaw.{length-file_of}
use Rattle.compile_laws.specs.Compiles.{rule_records, statement_outputs}
use Rattle.compile_laws.specs.Numbers.{Numbers, compiled_stores, dictionary_stores, item_values, numbers_of, value_store, values_of}
use Rattle.compile_laws.specs.Ordered.{compiled_tables, in_order}
use Rattle.compile_laws.proofs.Ordered.{in_order_permutes}
use Rattle.load_maker.specs.Files.{FilesHaveSizes}
use Rattle.load_maker.specs.Programs.{load_program, rule_defs}
use Rattle.load_maker.proofs.LoadPrograms.{no_dictionary, no_match, no_nomatch}

-- the file has no store
no_values : (i count : ℕ) → flat_map item_values (flat_map rule_items (rule_defs i count)) ≡ []
no_values i zero = refl
no_values zero (suc count) = no_values 1 count
no_values (suc i) (suc count) = no_values (suc (suc i)) count

no_value : (n : ℕ) → values_of (load_program n) ≡ []
unfolding values_of
no_value n =
    ap (λ (rules : List RuleDef). distinct_onto bytes_eq [] (flat_map item_values (flat_map rule_items rules))) (append-nil (rule_defs 0 (suc n)))
    ∙ ap (distinct_onto bytes_eq []) (no_values 0 (suc n))

no_stores : (n : ℕ) → compiled_stores (load_program n) ≡ []
unfolding stores_of
no_stores n = λ j. dictionary_stores (no_dictionary n j) ++ map value_store (no_value n j)

-- the records of rules if no key is cased
abbrev records : Numbers → ℕ → ℕ → List Rule
records numbers i count = flat_map (rule_records (record numbers { cased = [] })) (filter is_plain (rule_defs i count))

-- a character is one unit, and its string ends with another
char_string : (c : ℕ) → c < 0x1_0000 → length (string (item_units (spelled.Char c ∷ []))) ≡ 4
unfolding string item_units
char_string c low = ap (λ (units : List ℕ). length (string (units ++ []))) (char_units_low c low)

module _ (numbers : Numbers) where
  record_count : (i count : ℕ) → length (records numbers i count) ≡ count
  record_count i zero = refl
  record_count zero (suc count) = omega (arith, record_count 1 count)
  record_count (suc i) (suc count) = omega (arith, record_count (suc (suc i)) count)

  chain_strings : (i count : ℕ) → i + count ≤ 2000 → length (flat_map rule_strings (records numbers (suc i) count)) ≡ 8 * count
  chain_strings i zero within = refl
  chain_strings i (suc count) within =
      let context = string (item_units (spelled.Char (0x4E00 + i) ∷ [])) in
      let output = string (item_units (spelled.Char (0x4E00 + suc i) ∷ [])) in
      let rest = flat_map rule_strings (records numbers (suc (suc i)) count) in
      omega (
        arith,
        length-append (context ++ output) rest,
        length-append context output,
        char_string (0x4E00 + i) (omega arith),
        char_string (0x4E00 + suc i) (omega arith),
        chain_strings (suc i) count (omega arith),
      )

  all_strings : (n : ℕ) → n ≤ 2000 → length (flat_map rule_strings (records numbers 0 (suc n))) ≡ 4 + 8 * n
  unfolding string item_units
  all_strings n within = omega (arith, chain_strings 0 n (omega arith))

  -- the order of records changes none of this
  ordered_strings : (n : ℕ) → n ≤ 2000 → length (flat_map rule_strings (in_order (records numbers 0 (suc n)) ++ [])) ≡ 4 + 8 * n
  ordered_strings n within =
      let rules = records numbers 0 (suc n) in
      ap (λ (ordered : List Rule). length (flat_map rule_strings ordered)) (append-nil (in_order rules))
      ∙ length-flat_map rule_strings (in_order rules) ∙ sum_by-IsPermutation (λ rule. length (rule_strings rule)) rules (in_order rules) (in_order_permutes rules)
      ∙ sym (length-flat_map rule_strings rules) ∙ all_strings n within

  ordered_count : (n : ℕ) → length (in_order (records numbers 0 (suc n)) ++ []) ≡ n + 1
  ordered_count n =
      let rules = records numbers 0 (suc n) in
      let same : suc n ≡ n + 1 = omega arith in
      ap length (append-nil (in_order rules)) ∙ length_permutation rules (in_order rules) (in_order_permutes rules) ∙ record_count 0 (suc n) ∙ same

  -- the name of the group, which has neither match nor nomatch
  name_string : (n : ℕ)
      → length ((string (name_units (codes "main")) ++ string (output_units (statement_outputs numbers (find is_on_match (rule_defs 0 (suc n)))))
      ++ string (output_units (statement_outputs numbers (find is_on_nomatch (rule_defs 0 (suc n)))))) ++ []) ≡ 10
  unfolding string item_units name_units chars
  name_string n =
      λ j. length ((string (name_units (codes "main")) ++ string (output_units (statement_outputs numbers (no_match 0 (suc n) j)))
      ++ string (output_units (statement_outputs numbers (no_nomatch 0 (suc n) j)))) ++ [])

-- if tables have these counts, their file has the size of a load
file_size : (tables : Tables) (n : ℕ) → tables.stores ≡ [] → length tables.groups ≡ 1 → length (all_rules tables) ≡ n + 1
    → length (flat_map group_strings tables.groups) ≡ 10 → length (flat_map rule_strings (all_rules tables)) ≡ 4 + 8 * n → length (file_of tables []) ≡ 122 + 28 * n
file_size tables n stores groups rules names strings =
    omega (
      arith,
      length-file_of tables [],
      ap (length {A = Store}) stores,
      ap (λ (none : List Store). length (flat_map store_strings none)) stores,
    )

pub files_have_sizes : FilesHaveSizes
unfolding compiled_tables cased_keys stores_of
files_have_sizes n within =
    let numbers : Numbers = numbers_of (load_program n) in
    record {
      rules = ordered_count numbers n;
      bytes = file_size (compiled_tables (load_program n)) n (no_stores n) refl (ordered_count numbers n) (name_string numbers n) (ordered_strings numbers n within);
    }

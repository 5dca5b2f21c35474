-- The parts of the tables of a program, put together.
use Rattle.std.proofs.Common.{◌≡◌, ℕ, ◌+◌, ◌^◌, ◌<◌, ◌≤◌, List, [], ◌++◌, append_assoc, length, length-append, map, true, refl, sym, ap, subst, ◌∙◌, arith}
use Rattle.std.specs.List.{list_all}
use Rattle.std.proofs.lemmas.List.{length-map, take_all}
use Rattle.kmn_base.specs.declared.limits.TheConstants.{KEY_NAMES}
use Rattle.rule_model.specs.declared.program.GroupDef.{GroupDef}
use Rattle.rule_model.specs.declared.program.Program.{Program}
use Rattle.rule_model.specs.declared.tables.Store.{Store}
use Rattle.rule_model.specs.declared.tables.Tables.{Tables}
use Rattle.rule_model.specs.Naming.{SourceNames, names_of, stores_of, stores_onto}
use Rattle.rule_model.specs.Src.{cased_keys}
use Rattle.store_table.specs.Numbering.{NameLists, lists_of}
use Rattle.compile_laws.specs.Numbers.{numbers_of, values_of, value_store, dictionary_stores, compiled_stores, version_of}
use Rattle.compile_laws.specs.WellNamed.{is_word}
use Rattle.rule_expand.specs.CasedCodes.{cased_codes, HasCodes}
use Rattle.rule_expand.specs.Lookups.{source_names, AreFew, BeginWith, store_names, AreNumbers}
use Rattle.rule_expand.specs.Expanded.{HasTables, expanded_tables, without_stores}
use Rattle.rule_expand.proofs.NumberLaws.{all_begin}

module _ (program : Program) (has : HasTables program) where
  all_keys : (lists_of program).keys ≡ (names_of program).keys
  unfolding lists_of
  all_keys = take_all KEY_NAMES (names_of program).keys has.keys

  names_same : source_names (lists_of program) ≡ names_of program
  unfolding lists_of
  names_same = λ j. record { marks = (names_of program).marks; keys = all_keys j }

  count_stores : length (compiled_stores program) ≡ length (stores_of program) + (length (dictionary_stores (names_of program).keys) + length (values_of program))
  count_stores =
      length-append (stores_of program) (dictionary_stores (names_of program).keys ++ map value_store (values_of program))
      ∙ ap (λ n. length (stores_of program) + n)
      (length-append (dictionary_stores (names_of program).keys) (map value_store (values_of program))
      ∙ ap (λ n. length (dictionary_stores (names_of program).keys) + n) (length-map (values_of program) value_store))

  few : AreFew (lists_of program)
  unfolding lists_of
  few = record {
    stores = omega (arith, count_stores, has.stores, length-map (stores_of program) (λ (store : Store). store.name));
    groups = omega (arith, has.groups, length-map program.groups (λ (group : GroupDef). group.name));
    marks = has.marks;
    keys = omega (arith, has.keys, ap length all_keys);
  }

  pub few_lists : (lists : NameLists) → lists ≡ lists_of program → AreFew lists
  few_lists lists e = subst AreFew (sym e) few

  pub names_are : (lists : NameLists) → lists ≡ lists_of program → source_names lists ≡ names_of program
  names_are lists e = ap source_names e ∙ names_same

  -- the stores of the statements, and their names
  pub stores_are : (lists : NameLists) → lists ≡ lists_of program → stores_onto (source_names lists) [] program.stores ≡ stores_of program
  unfolding stores_of
  stores_are lists e = ap (λ (names : SourceNames). stores_onto names [] program.stores) (names_are lists e)

  named : (lists_of program).stores ≡ store_names (stores_of program)
  unfolding lists_of
  named = refl

  pub statements_begin : (lists : NameLists) → lists ≡ lists_of program → BeginWith (stores_onto (source_names lists) [] program.stores) lists.stores
  statements_begin lists e =
      all_begin lists (stores_onto (source_names lists) [] program.stores) (ap (λ (l : NameLists). l.stores) e ∙ (named ∙ ap store_names (sym (stores_are lists e))))

  keys_are : (lists : NameLists) → lists ≡ lists_of program → lists.keys ≡ (names_of program).keys
  keys_are lists e = ap (λ (l : NameLists). l.keys) e ∙ all_keys

  groups_are : (lists : NameLists) → lists ≡ lists_of program → lists.groups ≡ map (λ (group : GroupDef). group.name) program.groups
  unfolding lists_of
  groups_are lists e = ap (λ (l : NameLists). l.groups) e

  pub first_fits : (lists : NameLists) (stores : List Store) → lists ≡ lists_of program → stores ≡ stores_of program → length stores + length (dictionary_stores lists.keys) < 2 ^ 32
  first_fits lists stores e is =
      omega (arith, count_stores, has.stores, ap length is, ap (λ keys. length (dictionary_stores keys)) (keys_are lists e))

  pub are_numbers : (lists : NameLists) (known : List ℕ) (stores : List Store) (values : List (List ℕ)) (first : ℕ)
      → lists ≡ lists_of program → stores ≡ stores_of program → values ≡ values_of program → first ≡ length stores + length (dictionary_stores lists.keys)
      → HasCodes known (cased_codes stores)
      → AreNumbers lists known (record { names = source_names lists; stores = stores; groups = lists.groups; values = values; first_value = first; cased = cased_codes stores })
  are_numbers lists known stores values first e is all count cased = record {
    few = few_lists lists e;
    names = refl;
    groups = refl;
    stores = ap (λ (l : NameLists). l.stores) e ∙ (named ∙ ap store_names (sym is));
    cased = cased;
    values = omega (arith, count_stores, has.stores, ap length is, ap length all, ap (λ keys. length (dictionary_stores keys)) (keys_are lists e), count);
  }

  pub numbers_are : (lists : NameLists) (stores : List Store) (values : List (List ℕ)) (first : ℕ)
      → lists ≡ lists_of program → stores ≡ stores_of program → values ≡ values_of program → first ≡ length stores + length (dictionary_stores lists.keys)
      → record { names = source_names lists; stores = stores; groups = lists.groups; values = values; first_value = first; cased = cased_codes stores } ≡ numbers_of program
  unfolding cased_keys
  numbers_are lists stores values first e is all count =
      let firsts : first ≡ length (stores_of program) + length (dictionary_stores (names_of program).keys) =
      count ∙ (λ j. length (is j) + length (dictionary_stores (keys_are lists e j))) in
      λ j. record { names = names_are lists e j; stores = is j; groups = groups_are lists e j; values = all j; first_value = firsts j; cased = cased_codes (is j) }

  -- the names of the key dictionary are few, and words
  pub few_names : (lists : NameLists) → lists ≡ lists_of program → length lists.keys ≤ KEY_NAMES
  few_names lists e = (few_lists lists e).keys

  pub words_of : (lists : NameLists) → lists ≡ lists_of program → list_all is_word lists.keys ≡ true
  words_of lists e = ap (list_all is_word) (keys_are lists e) ∙ has.words

  -- the stores that are added
  pub added_stores : (lists : NameLists) (stores : List Store) (values : List (List ℕ)) → lists ≡ lists_of program → stores ≡ stores_of program → values ≡ values_of program
      → (stores ++ dictionary_stores lists.keys) ++ map value_store values ≡ compiled_stores program
  added_stores lists stores values e is all =
      append_assoc stores (dictionary_stores lists.keys) (map value_store values)
      ∙ (λ j. is j ++ (dictionary_stores (keys_are lists e j) ++ map value_store (all j)))

  -- the tables whole
  pub tables_are : (added : List Store) (made : Tables) → made ≡ without_stores (numbers_of program) program (version_of program) → added ≡ compiled_stores program
      → record made { stores = added } ≡ expanded_tables program
  unfolding expanded_tables
  tables_are added made filled all = λ j. record (filled j) { stores = all j }

-- The sizes that the limits count for the program of tables are the sizes of the stores that the program compiles to.
use Rattle.std.proofs.Common.{◌≡◌, ℕ, ◌≤◌, false, List, [], ◌∷◌, ◌++◌, length, map, None, refl, sym, ◌∙◌, ap, subst, arith}
use Rattle.std.specs.Prelude.{◌+◌, flat_map, nat_lt, sum}
use Rattle.std.specs.List.{list_any, AllByRecursion}
use Rattle.std.specs.Str.{bytes_eq}
use Rattle.std.proofs.lemmas.Bool.{le-ltb, or_from, cond-false}
use Rattle.std.proofs.lemmas.List.{length-map, map-append}
use Rattle.std.proofs.lemmas.List.Concat.{length-flat_map}
use Rattle.std.proofs.lemmas.List.Sums.{sum-map}
use Rattle.kmn_base.specs.declared.limits.TheConstants.{STORE_ELEMENTS, ALL_ELEMENTS, STORES}
use Rattle.kmn_base.specs.Names.{same_name}
use Rattle.rule_model.specs.declared.program.SrcItem.{SrcItem}
use Rattle.rule_model.specs.declared.program.StoreDef.{StoreDef}
use Rattle.rule_model.specs.declared.program.Program.{Program}
use Rattle.rule_model.specs.declared.tables.Store.{Store}
use Rattle.rule_model.specs.declared.tables.Tables.{Tables}
use Rattle.rule_model.specs.Tab.{distinct_onto}
use Rattle.rule_model.specs.Naming.{names_of, stores_of, store_of, is_dropped, source_items, all_rules, key_names}
use Rattle.compile_laws.specs.Numbers.{values_of, value_store, dictionary_stores, compiled_stores}
use Rattle.kmx_format.specs.Writable.{elements_of}
use Rattle.kmx_format.specs.Playable.{IsPlayable}
use Rattle.store_table.specs.Known.{Known, known, statement_elements}
use Rattle.rule_checker.specs.Limits.{items_of, values_of_statement, statement_size, store_size, dictionary_size, sizes, have_many_elements, limits_refusal}
use Rattle.rule_checker.specs.Refused.{IsRead}
use Rattle.rule_checker.proofs.Sizes.{element_count, items_in_order, values_in_order, stores_in_order, dictionary_sized, values_sized}
use Rattle.rule_checker.proofs.Reading.{own_keys_read}
use Rattle.decompile_program.specs.Names.{named_stores}
use Rattle.decompile_program.specs.Back.{back_stores, numbered, front_stores, names_for, written_stores, back}
use Rattle.decompile_program.specs.WrittenOut.{CanBeWrittenOut}
use Rattle.decompile_program.proofs.Linking.{IsSimple, stores-mapped}
use Rattle.decompile_program.proofs.BackCalls.{back-simple}
use Rattle.decompile_program.proofs.Stores.{the-calls}
use Rattle.decompile_program.proofs.FrontStores.{front-simple, numbered-simple}
use Rattle.decompile_program.proofs.Choosing.{all_join}
use Rattle.kmx_decompiler.specs.Excess.{store_count, element_count as text_elements}
use Rattle.kmx_decompiler.proofs.Sayable.{IsSayable}
use Rattle.kmx_decompiler.proofs.FewItems.{statements, all_short, records_few, groups_few, marks_few}
use Rattle.kmx_decompiler.proofs.UnpassedLimits.{KeepsLimits, no_limit_passed}
use Rattle.kmx_decompiler.proofs.UnrefusedRules.{no-earlier}

-- if stores name no other store, they have the counted sizes
stores-sized : (facts : Known) (stores : List StoreDef) → AllByRecursion (IsSimple facts.names) stores → flat_map (store_size facts) stores ≡ map element_count (map (store_of facts.names []) stores)
stores-sized facts [] h = refl
stores-sized facts (s ∷ stores) h =
    λ j. (cond-false (is_dropped s) [] (length (statement_elements facts s) ∷ []) h.0.0 ∙ ap (λ (t : Store). length t.elements ∷ []) (h.0.1 facts.stores)) j
    ++ stores-sized facts stores h.1 j

module _ (tables : Tables) (can : IsPlayable tables) (out : CanBeWrittenOut tables) where
  abbrev pub program : Program
  program = back tables

  pub simple : AllByRecursion (IsSimple (names_of program)) (written_stores tables)
  simple =
      all_join (IsSimple (names_of program)) (numbered 1 (front_stores tables)) (back_stores (names_for tables) (1 + length (front_stores tables)) (names_for tables).stores tables.stores)
      (numbered-simple (names_of program) 1 (front_stores tables) (front-simple (names_of program) tables))
      (back-simple (names_of program) (names_for tables) (named_stores tables) (1 + length (front_stores tables)) 0 (names_for tables).stores tables.stores (the-calls tables can out))

  stores-counted : flat_map (statement_size (known program)) (statements tables can) ≡ map element_count (stores_of program)
  unfolding known stores_of back
  stores-counted =
      stores_in_order (known program) (written_stores tables) (all_rules program)
      ∙ stores-sized (known program) (written_stores tables) simple
      ∙ ap (map element_count) (sym (stores-mapped (names_of program) [] (written_stores tables) simple))

  pub counted_sizes : IsRead program → sizes (known program) (statements tables can) ≡ map element_count (compiled_stores program)
  unfolding names_of values_of
  counted_sizes read =
      let all = statements tables can in
      let items : flat_map items_of all ≡ source_items program = items_in_order program.stores (all_rules program) in
      let keys : distinct_onto same_name [] (flat_map key_names (flat_map items_of all)) ≡ (names_of program).keys = ap (λ (xs : List SrcItem). distinct_onto same_name [] (flat_map key_names xs)) items in
      let values : distinct_onto bytes_eq [] (flat_map values_of_statement all) ≡ values_of program = ap (distinct_onto bytes_eq []) (values_in_order program.stores (all_rules program)) in
      (λ j. stores-counted j ++ (dictionary_size (keys j) ++ map length (values j)))
      ∙ (λ j. map element_count (stores_of program) ++ (dictionary_sized (names_of program).keys (own_keys_read program read.statements) j ++ values_sized (values_of program) j))
      ∙ sym (map-append element_count (stores_of program) (dictionary_stores (names_of program).keys ++ map value_store (values_of program))
      ∙ ap (λ (ns : List ℕ). map element_count (stores_of program) ++ ns) (map-append element_count (dictionary_stores (names_of program).keys) (map value_store (values_of program))))

  -- no store that the program compiles to has too many elements
  abbrev pub AreShortStores : Type 0
  AreShortStores = list_any (nat_lt STORE_ELEMENTS) (map element_count (compiled_stores program)) ≡ false

  few-stores : IsSayable tables → length (compiled_stores program) ≤ STORES
  unfolding store_count
  few-stores said = said.small.stores

  few-elements : IsSayable tables → length (flat_map elements_of (compiled_stores program)) ≤ ALL_ELEMENTS
  unfolding text_elements
  few-elements said = said.small.elements

  pub keeps_limits : IsSayable tables → IsRead program → AreShortStores → KeepsLimits (known program) (statements tables can)
  keeps_limits said read short =
      let counted = counted_sizes read in
      let stores = few-stores said in
      let elements = few-elements said in
      let l = ap length counted in
      let m = length-map (compiled_stores program) element_count in
      let total = sum-map element_count (compiled_stores program) in
      let flat = length-flat_map elements_of (compiled_stores program) in
      record {
        elements = subst (λ (ns : List ℕ). have_many_elements ns ≡ false) (sym counted)
            (or_from (list_any (nat_lt STORE_ELEMENTS) (map element_count (compiled_stores program))) (nat_lt ALL_ELEMENTS (sum (map element_count (compiled_stores program)))) short
            (le-ltb ALL_ELEMENTS (sum (map element_count (compiled_stores program))) (omega (arith, elements, total, flat))));
        stores = omega (arith, stores, l, m);
        marks = marks_few tables can said out;
        records = records_few tables can out;
      }

  pub limits_unpassed : IsSayable tables → IsRead program → AreShortStores → limits_refusal program ≡ None
  unfolding limits_refusal
  limits_unpassed said read short =
      no-earlier _ _ (no_limit_passed (known program) [] (statements tables can) (keeps_limits said read short) (all_short tables can)) (groups_few tables can)

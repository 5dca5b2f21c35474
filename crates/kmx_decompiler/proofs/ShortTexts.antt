-- If the store of the key names does not have too many elements, no store that a file's text compiles to has too many.
use Rattle.std.proofs.Common.{◌≡◌, ℕ, ◌+◌, ◌≤◌, false, List, [], ◌∷◌, ◌++◌, length, map, refl, sym, subst, arith}
use Rattle.std.specs.Prelude.{nat_lt, slice_get, unwrap_or}
use Rattle.std.specs.List.{list_any, AllByRecursion}
use Rattle.std.proofs.lemmas.Bool.{le-ltb, or_from}
use Rattle.std.proofs.lemmas.List.{length-map}
use Rattle.kmn_base.specs.declared.items.Element.TheVariants as element
use Rattle.kmn_base.specs.declared.limits.TheConstants.{STORE_ELEMENTS}
use Rattle.rule_model.specs.declared.program.StoreDef.{StoreDef}
use Rattle.rule_model.specs.declared.tables.Store.{Store}
use Rattle.rule_model.specs.declared.tables.Tables.{Tables}
use Rattle.rule_model.specs.Naming.{SourceNames, names_of, stores_of, store_of}
use Rattle.rule_model.specs.Tab.{tab_dictionary}
use Rattle.compile_laws.specs.Numbers.{values_of, value_store, dictionary_stores, compiled_stores}
use Rattle.kmx_format.specs.Playable.{IsPlayable}
use Rattle.rule_checker.proofs.Sizes.{element_count}
use Rattle.decompile_program.specs.Marks.{greatest_mark}
use Rattle.decompile_program.specs.Back.{back_stores, numbered, mark_stores, front_stores, free_stores, names_for, written_stores, back}
use Rattle.decompile_program.specs.WrittenOut.{CanBeWrittenOut}
use Rattle.decompile_program.proofs.Linking.{stores-mapped}
use Rattle.decompile_program.proofs.Choosing.{all_join}
use Rattle.decompile_program.proofs.FewNames.{HasFewElements}
use Rattle.kmx_decompiler.proofs.Sayable.{IsSayable}
use Rattle.kmx_decompiler.proofs.SpelledPrograms.{greatest_near}
use Rattle.kmx_decompiler.proofs.CountedSizes.{AreShortStores, simple}
use Rattle.kmx_decompiler.proofs.ShortStores.{IsShortStatement, version_short, front_short, back_short}
use Rattle.kmx_decompiler.proofs.ShortValues.{IsShortValue, values_short}

all-short : (stores : List Store) → AllByRecursion HasFewElements stores → list_any (nat_lt STORE_ELEMENTS) (map element_count stores) ≡ false
all-short [] h = refl
all-short (s ∷ stores) h =
    or_from (nat_lt STORE_ELEMENTS (length s.elements)) (list_any (nat_lt STORE_ELEMENTS) (map element_count stores)) (le-ltb STORE_ELEMENTS (length s.elements) h.0) (all-short stores h.1)

statements-short : (names : SourceNames) (stores : List StoreDef) → AllByRecursion (IsShortStatement names) stores → AllByRecursion HasFewElements (map (store_of names []) stores)
statements-short names [] h = tt
statements-short names (s ∷ stores) h = (h.0, statements-short names stores h.1)

value-stores : (values : List (List ℕ)) → AllByRecursion IsShortValue values → AllByRecursion HasFewElements (map value_store values)
value-stores [] h = tt
value-stores (value ∷ values) h = ((let few = h.0 in let l = length-map value element.Char in omega (arith, few, l)), value-stores values h.1)

module _ (tables : Tables) (can : IsPlayable tables) (out : CanBeWrittenOut tables) (said : IsSayable tables) (few : length (tab_dictionary tables.stores) ≤ STORE_ELEMENTS) where
  abbrev names : SourceNames
  names = names_of (back tables)

  own-short : AllByRecursion HasFewElements (stores_of (back tables))
  unfolding stores_of back
  own-short =
      subst (AllByRecursion HasFewElements) (sym (stores-mapped names [] (written_stores tables) (simple tables can out)))
      (statements-short names (written_stores tables)
      (all_join (IsShortStatement names) (numbered 1 (front_stores tables)) (back_stores (names_for tables) (1 + length (front_stores tables)) (names_for tables).stores tables.stores) (
        version_short names tables.version can.version,
        front_short names 2 (greatest_mark tables) (unwrap_or (slice_get (free_stores tables) 0) []) (unwrap_or (slice_get (free_stores tables) (length (mark_stores tables))) [])
            (tab_dictionary tables.stores) (greatest_near tables said) few,
      )
      (back_short names (names_for tables) (1 + length (front_stores tables)) (names_for tables).stores tables.stores can.stores)))

  pub stores_short : AllByRecursion HasFewElements (dictionary_stores names.keys) → AreShortStores tables can out
  stores_short keys =
      all-short (compiled_stores (back tables))
      (all_join HasFewElements (stores_of (back tables)) (dictionary_stores names.keys ++ map value_store (values_of (back tables))) own-short
      (all_join HasFewElements (dictionary_stores names.keys) (map value_store (values_of (back tables))) keys (value-stores (values_of (back tables)) (values_short tables can))))

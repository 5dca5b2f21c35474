-- The counts of tables are the numbers of stores and elements that the program of the tables compiles to.
use Rattle.std.proofs.Common.{◌≡◌, ℕ, List, [], ◌∷◌, ◌++◌, length, map, sym, ap, ◌∙◌, append_assoc}
use Rattle.std.specs.Prelude.{All, sum}
use Rattle.std.specs.Str.{IsUtf8}
use Rattle.std.proofs.lemmas.List.{length-map, map-append}
use Rattle.std.proofs.lemmas.List.Concat.{length-flat_map}
use Rattle.std.proofs.lemmas.List.Sums.{sum-map}
use Rattle.rule_model.specs.declared.program.Program.{Program}
use Rattle.rule_model.specs.declared.tables.Store.{Store}
use Rattle.rule_model.specs.declared.tables.Tables.{Tables}
use Rattle.rule_model.specs.Tab.{tab_dictionary}
use Rattle.rule_model.specs.Naming.{names_of, stores_of}
use Rattle.kmx_format.specs.Writable.{elements_of}
use Rattle.kmx_format.specs.Playable.{IsPlayable}
use Rattle.compile_laws.specs.Numbers.{dictionary_stores, value_store, values_of, compiled_stores}
use Rattle.decompile_program.specs.Marks.{greatest_mark}
use Rattle.kmx_format.specs.Versions.{version_text}
use Rattle.decompile_program.specs.Back.{names_for, written_stores, back}
use Rattle.decompile_program.specs.WrittenOut.{table_values, CanBeWrittenOut}
use Rattle.decompile_program.proofs.Linking.{stores-mapped}
use Rattle.decompile_program.proofs.Numbering.{keys-are}
use Rattle.kmx_decompiler.specs.Excess.{store_count, element_count}
use Rattle.kmx_decompiler.proofs.CountedSizes.{simple}
use Rattle.kmx_decompiler.specs.declared.counts.WrittenCounts.{WrittenCounts}
use Rattle.kmx_decompiler.specs.Values.{with_values}
use Rattle.kmx_decompiler.specs.Counting.{none_counted, with_lengths, some_length, called_lengths, joined_length, text_lengths}
use Rattle.kmx_decompiler.proofs.FewCounts.{few_lengths, few_in_all}
use Rattle.kmx_decompiler.proofs.Lengths.{stores_are, elements_are}
use Rattle.kmx_decompiler.proofs.StoreLengths.{length_of, written_lengths, dictionary_length, value_lengths}
use Rattle.kmx_decompiler.proofs.TextValues.{text_values}

apart : (v : ℕ) (marks keys stores rest : List ℕ) → ((v ∷ (marks ++ keys)) ++ stores) ++ rest ≡ v ∷ (marks ++ (keys ++ (stores ++ rest)))
apart v marks keys stores rest =
    ap (λ (ns : List ℕ). v ∷ ns)
    (append_assoc (marks ++ keys) stores rest ∙ append_assoc marks keys (stores ++ rest))

module _ (tables : Tables) (can : IsPlayable tables) (out : CanBeWrittenOut tables) (utf8 : All IsUtf8 (tab_dictionary tables.stores)) where
  abbrev program : Program
  program = back tables

  stores-counted : map length_of (stores_of program)
      ≡ (length (version_text tables.version) ∷ (some_length (greatest_mark tables) ++ some_length (length (tab_dictionary tables.stores)))) ++ called_lengths (names_for tables).stores 0 tables.stores
  unfolding stores_of back
  stores-counted = ap (map length_of) (stores-mapped (names_of program) [] (written_stores tables) (simple tables can out)) ∙ written_lengths (names_of program) tables

  pub lengths_counted : map length_of (compiled_stores program) ≡ text_lengths tables
  lengths_counted =
      let last : List Store = dictionary_stores (names_of program).keys ++ map value_store (values_of program) in
      map-append length_of (stores_of program) last
      ∙ ap (λ (ns : List ℕ). map length_of (stores_of program) ++ ns)
      (map-append length_of (dictionary_stores (names_of program).keys) (map value_store (values_of program)))
      ∙ (λ j. stores-counted j
      ++ ((ap (λ (keys : List (List ℕ)). map length_of (dictionary_stores keys)) (keys-are tables can out) ∙ dictionary_length (tab_dictionary tables.stores) utf8) j
      ++ (value_lengths (values_of program) ∙ ap (map length) (text_values tables)) j))
      ∙ apart (length (version_text tables.version)) (some_length (greatest_mark tables)) (some_length (length (tab_dictionary tables.stores))) (called_lengths (names_for tables).stores 0 tables.stores)
      (joined_length (tab_dictionary tables.stores) ++ map length (with_values (names_for tables) [] (table_values tables)))

pub stores_counted : (tables : Tables) (counts : WrittenCounts) → IsPlayable tables → CanBeWrittenOut tables → All IsUtf8 (tab_dictionary tables.stores) → counts ≡ with_lengths none_counted (text_lengths tables)
    → counts.stores ≡ store_count (back tables)
unfolding store_count
stores_counted tables counts can out utf8 is =
    ap (λ (c : WrittenCounts). c.stores) is
    ∙ stores_are (text_lengths tables) (few_lengths tables can)
    ∙ ap length (sym (lengths_counted tables can out utf8))
    ∙ length-map (compiled_stores (back tables)) length_of

pub elements_counted : (tables : Tables) (counts : WrittenCounts) → IsPlayable tables → CanBeWrittenOut tables → All IsUtf8 (tab_dictionary tables.stores) → counts ≡ with_lengths none_counted (text_lengths tables)
    → counts.elements ≡ element_count (back tables)
unfolding element_count
elements_counted tables counts can out utf8 is =
    ap (λ (c : WrittenCounts). c.elements) is
    ∙ elements_are (text_lengths tables) (few_in_all tables can)
    ∙ ap sum (sym (lengths_counted tables can out utf8))
    ∙ sum-map length_of (compiled_stores (back tables))
    ∙ sym (length-flat_map elements_of (compiled_stores (back tables)))

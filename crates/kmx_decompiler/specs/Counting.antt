-- The number of stores that a text compiles to, and the number of elements of all these stores.
use Rattle.std.specs.Prelude.{ℕ, ◌+◌, ◌-◌, min, nat_eq, if◌then◌else◌, List, [], ◌∷◌, ◌++◌, length, map, Option, None, is_some, unwrap_or, slice_get}
use Rattle.kmn_base.specs.Texts.{character_count}
use Rattle.rule_model.specs.declared.tables.Store.{Store}
use Rattle.rule_model.specs.declared.tables.Tables.{Tables}
use Rattle.rule_model.specs.Tab.{tab_dictionary}
use Rattle.decompile_program.specs.Marks.{greatest_mark}
use Rattle.kmx_format.specs.Versions.{version_text}
use Rattle.decompile_program.specs.Back.{names_for}
use Rattle.decompile_program.specs.WrittenOut.{table_values}
use Rattle.kmx_decompiler.specs.declared.counts.WrittenCounts.{WrittenCounts}
use Rattle.kmx_decompiler.specs.Values.{with_values}

-- the counts of no stores
abbrev pub none_counted : WrittenCounts
none_counted = record { stores = 0; elements = 0 }

-- a count, or the maximum of its type if the count is larger
abbrev pub capped : ℕ → ℕ
capped count = min count 0xFFFF_FFFF

-- the counts with another store for each of these lengths
abbrev pub with_lengths : WrittenCounts → List ℕ → WrittenCounts
with_lengths counts [] = counts
with_lengths counts (n ∷ ns) = with_lengths (record { stores = capped (counts.stores + 1); elements = capped (counts.elements + n) }) ns

-- the length of a store if it has an element
abbrev pub some_length : ℕ → List ℕ
some_length n = if nat_eq n 0 then [] else n ∷ []

-- the lengths of those stores of a file that the text contains; the stores are numbered from `n` on
abbrev pub called_lengths : List (Option (List ℕ)) → ℕ → List Store → List ℕ
called_lengths calls n [] = []
called_lengths calls n (store ∷ stores) =
    (if is_some (unwrap_or (slice_get calls n) None) then length store.elements ∷ [] else []) ++ called_lengths calls (n + 1) stores

-- the number of characters in names, plus one for each name
abbrev pub spaced_size : List (List ℕ) → ℕ
spaced_size [] = 0
spaced_size (name ∷ names) = character_count name + 1 + spaced_size names

-- the length of the store of a dictionary if it has a name: a space separates each two names
abbrev pub joined_length : List (List ℕ) → List ℕ
joined_length [] = []
joined_length (name ∷ names) = (spaced_size (name ∷ names) - 1) ∷ []

-- the lengths of all stores that the text of tables compiles to
abbrev pub text_lengths : Tables → List ℕ
text_lengths tables =
    length (version_text tables.version)
    ∷ (some_length (greatest_mark tables)
    ++ (some_length (length (tab_dictionary tables.stores))
    ++ (called_lengths (names_for tables).stores 0 tables.stores
    ++ (joined_length (tab_dictionary tables.stores) ++ map length (with_values (names_for tables) [] (table_values tables))))))

-- The laws of an accepted program, one that is read from a source and isn't refused.
use Rattle.std.specs.Prelude.{◌≡◌, ℕ, List, map, length, None}
use Rattle.rule_model.specs.declared.program.Program.{Program}
use Rattle.rule_model.specs.declared.tables.Store.{Store}
use Rattle.rule_model.specs.declared.tables.Tables.{Tables}
use Rattle.rule_model.specs.Naming.{all_rules}
use Rattle.rule_model.specs.Src.{src}
use Rattle.compile_laws.specs.Compiles.{Compiles}
use Rattle.compile_laws.specs.Numbers.{compiled_stores}
use Rattle.compile_laws.specs.WellNamed.{IsWellNamed}
use Rattle.kmx_format.specs.File.{all_rules as records_of}
use Rattle.kmx_format.specs.Writable.{IsWritable}
use Rattle.store_table.specs.Known.{known}
use Rattle.store_table.specs.Numbering.{lists_of}
use Rattle.rule_checker.specs.Limits.{Statement, in_line_order, sizes, all_records}
use Rattle.rule_checker.specs.Refused.{IsRead, refused}

-- an accepted program is well named
abbrev pub AcceptedIsWellNamed : Type 0
AcceptedIsWellNamed = (program : Program) → IsRead program → refused program ≡ None → IsWellNamed program

-- the tables of an accepted program can be written as a file
abbrev pub AcceptedCanBeWritten : Type 0
AcceptedCanBeWritten =
    (program : Program) (tables : Tables) → IsRead program → refused program ≡ None → Compiles program tables → IsWritable tables

-- each key name of an accepted program has a code, so that they are the words of its dictionary
abbrev pub KeysHaveCodes : Type 0
KeysHaveCodes =
    (program : Program) → IsRead program → refused program ≡ None → (lists_of program).keys ≡ (src program).dictionary

-- the statements of a program that have items, in the order of their lines
abbrev pub statements_of : Program → List Statement
statements_of program = in_line_order program.stores (all_rules program)

-- the number of elements of each store
abbrev pub element_counts : List Store → List ℕ
element_counts stores = map (λ (store : Store). length store.elements) stores

-- the counts that the limits of stores compute over all statements of an accepted program are the numbers of elements of the
-- stores of its file, in the order of the file
abbrev pub StoresAreCounted : Type 0
StoresAreCounted =
    (program : Program) → IsRead program → refused program ≡ None
    → sizes (known program) (statements_of program) ≡ element_counts (compiled_stores program)

-- the count that the limit of records computes over all statements of an accepted program is the number of records of its tables
abbrev pub RecordsAreCounted : Type 0
RecordsAreCounted =
    (program : Program) (tables : Tables) → IsRead program → refused program ≡ None → Compiles program tables
    → all_records (known program) (statements_of program) ≡ length (records_of tables)

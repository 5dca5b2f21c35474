-- The tables that a program compiles to, as a function of the program.
use Rattle.std.specs.Prelude.{if◌then◌else◌, List, [], ◌∷◌, map, find}
use Rattle.rule_model.specs.declared.program.Program.{Program}
use Rattle.rule_model.specs.declared.tables.Rule.{Rule}
use Rattle.rule_model.specs.declared.tables.Group.{Group}
use Rattle.rule_model.specs.declared.tables.Tables.{Tables}
use Rattle.rule_model.specs.Src.{is_unicode}
use Rattle.compile_laws.specs.Numbers.{numbers_of, number_of_start, version_of, compiled_stores}
use Rattle.compile_laws.specs.Compiles.{file_group, precedes, is_ansi}

-- inserts a record into sorted records, after all records that precede it
abbrev pub placed : Rule → List Rule → List Rule
placed record_now [] = record_now ∷ []
placed record_now (other ∷ others) = if precedes other record_now then other ∷ placed record_now others else record_now ∷ other ∷ others

-- records in order
abbrev pub in_order : List Rule → List Rule
in_order [] = []
in_order (first ∷ records) = placed first (in_order records)

-- a group with its records in order
abbrev pub ordered_group : Group → Group
ordered_group group = record group { rules = in_order group.rules }

-- the tables of a program
unfoldable pub compiled_tables : Program → Tables
compiled_tables program =
    record {
      version = version_of program;
      start_ansi = number_of_start (numbers_of program) (find is_ansi program.begins);
      start_unicode = number_of_start (numbers_of program) (find is_unicode program.begins);
      stores = compiled_stores program;
      groups = map (λ group. ordered_group (file_group (numbers_of program) group)) program.groups;
    }

-- The tables of a program with its records in the order of the rules, and the programs that have them.
use Rattle.std.specs.Prelude.{◌≡◌, ℕ, ◌^◌, ◌<◌, ◌≤◌, true, [], length, map, find}
use Rattle.std.specs.List.{list_all}
use Rattle.kmn_base.specs.declared.limits.TheConstants.{KEY_NAMES}
use Rattle.rule_model.specs.declared.program.Program.{Program}
use Rattle.rule_model.specs.declared.tables.Tables.{Tables}
use Rattle.rule_model.specs.Naming.{names_of, stores_of}
use Rattle.rule_model.specs.Src.{is_unicode}
use Rattle.compile_laws.specs.Numbers.{Numbers, numbers_of, number_of_start, version_of, compiled_stores}
use Rattle.compile_laws.specs.Compiles.{file_group, is_ansi}
use Rattle.compile_laws.specs.WellNamed.{is_word}
use Rattle.rule_expand.specs.Groups.{have_unit_keys}

-- the tables of a program, each group with the records of its rules in their order
unfoldable pub expanded_tables : Program → Tables
expanded_tables program =
    record {
      version = version_of program;
      start_ansi = number_of_start (numbers_of program) (find is_ansi program.begins);
      start_unicode = number_of_start (numbers_of program) (find is_unicode program.begins);
      stores = compiled_stores program;
      groups = map (file_group (numbers_of program)) program.groups;
    }

-- tables by these numbers, without stores
abbrev pub without_stores : Numbers → Program → ℕ → Tables
without_stores numbers program version =
    record {
      version = version;
      start_ansi = number_of_start numbers (find is_ansi program.begins);
      start_unicode = number_of_start numbers (find is_unicode program.begins);
      stores = [];
      groups = map (file_group numbers) program.groups;
    }

-- whether the numbers of a program fit in the fields of tables, its keys are characters of one unit, and the names of its key
-- dictionary are words
pub record HasTables (program : Program) : Type 0 where
  pub marks : length (names_of program).marks < 2 ^ 16
  pub keys : length (names_of program).keys ≤ KEY_NAMES
  pub words : list_all is_word (names_of program).keys ≡ true
  pub groups : length program.groups ≤ 2 ^ 32
  pub stores : length (compiled_stores program) < 2 ^ 32
  pub unit_keys : list_all (have_unit_keys (stores_of program)) program.groups ≡ true

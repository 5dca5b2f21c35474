-- Laws of the `.kmx` file.
use Rattle.std.specs.Prelude.{◌≡◌, ℕ, ◌≤◌, List, length}
use Rattle.kmn_base.specs.declared.limits.TheConstants.{FILE_BYTES}
use Rattle.rule_model.specs.declared.tables.Tables.{Tables}
use Rattle.kmx_format.specs.File.{file_of}
use Rattle.kmx_format.specs.TablesOf.{tables_of, no_places}
use Rattle.kmx_format.specs.Writable.{IsWritable, IsFile}

-- reading a file returns the tables that were written, without the positions of keys in key stores
abbrev pub ReadingGivesBack : Type 0
ReadingGivesBack = (tables : Tables) (picture : List ℕ) → IsWritable tables → length (file_of tables picture) ≤ FILE_BYTES
    → tables_of (file_of tables picture) ≡ no_places tables

-- the tables that are read from a file are again tables that a file can have
abbrev pub FilesHaveWritableTables : Type 0
FilesHaveWritableTables = (bytes : List ℕ) → IsFile bytes → IsWritable (tables_of bytes)

-- What Keyman's own engine treats differently in a file.
use Rattle.std.specs.Prelude.{ℕ, List}
use Rattle.kmx_format.specs.declared.places.TheConstants.{FLAGS_AT}
use Rattle.kmx_format.specs.TablesOf.{word_at, tables_of}
use Rattle.core_constructs.specs.declared.construct.Told.{Told}
use Rattle.core_constructs.specs.Told.{told}

-- what is told of the tables of a file and of the flags in its header
abbrev pub told_of : List ℕ → Told
told_of bytes = told (word_at bytes FLAGS_AT) (tables_of bytes)

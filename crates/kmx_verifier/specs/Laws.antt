-- The laws of valid files, stated without the steps that find a fault.
use Rattle.std.specs.Prelude.{◌<◌, ℕ, List}
use Rattle.std.specs.List.{All}
use Rattle.kmx_format.specs.TablesOf.{tables_of}
use Rattle.kmx_format.specs.Playable.{IsPlayable}
use Rattle.kmx_format.specs.Writable.{IsFile}
use Rattle.kmx_verifier.specs.FaultOf.{IsValid}

-- the tables of a valid file can be played: every number that an item names is below its count, every offset points at
-- what it must, and the limits are kept
abbrev pub ValidFilesCanBePlayed : Type 0
ValidFilesCanBePlayed = (bytes : List ℕ) → All (λ byte. byte < 256) bytes → IsValid bytes → IsPlayable (tables_of bytes)

-- the file that is written for writable tables and any picture is valid, if both are within their limits
abbrev pub FilesAreValid : Type 0
FilesAreValid = (bytes : List ℕ) → IsFile bytes → IsValid bytes

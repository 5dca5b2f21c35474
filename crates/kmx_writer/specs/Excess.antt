-- Why a file isn't written, except if an allocation fails.
use Rattle.std.specs.Prelude.{◌≡◌, ℕ, nat_lt, if◌then◌else◌, List, length, Option, Some, None}
use Rattle.kmn_base.specs.declared.limits.TheConstants.{PICTURE_BYTES, FILE_BYTES}
use Rattle.kmn_base.specs.declared.codes.Code.{Code}
use Rattle.kmn_base.specs.declared.codes.Code.TheVariants.{C23, C24}
use Rattle.kmn_base.specs.declared.refusals.CompileError.{CompileError}
use Rattle.kmn_base.specs.declared.refusals.CompileError.TheVariants.{Refused, TooLarge, Memory}
use Rattle.rule_model.specs.declared.tables.Tables.{Tables}
use Rattle.kmx_format.specs.File.{file_of}

-- the code of the limit that is exceeded and the size that exceeds it: first the picture's limit, then the file's
abbrev pub excess : Tables → List ℕ → Option (Code × ℕ)
excess tables picture =
    if nat_lt PICTURE_BYTES (length picture) then Some (C24, length picture)
    else if nat_lt FILE_BYTES (length (file_of tables picture)) then Some (C23, length (file_of tables picture))
    else None

-- an error names the limit that is exceeded, or is `Memory`
abbrev pub IsExcess : Option (Code × ℕ) → CompileError → Type 0
IsExcess passed (Refused refusal) = ⊥
IsExcess passed (TooLarge code size) = passed ≡ Some (code, size)
IsExcess passed Memory = Unit {0}

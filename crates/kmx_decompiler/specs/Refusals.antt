-- The reason in a refusal of the decompiler.
use Rattle.std.specs.Prelude.{ℕ, nat_lt, if◌then◌else◌, Option, Some, None}
use Rattle.kmn_base.specs.declared.limits.TheConstants.{STORES, ALL_ELEMENTS}
use Rattle.kmx_decompiler.specs.declared.no_spelling.NoSpelling.{NoSpelling}
use Rattle.kmx_decompiler.specs.declared.no_spelling.NoSpelling.TheVariants as spelling
use Rattle.kmx_decompiler.specs.declared.refusals.DecompileError.{DecompileError}
use Rattle.kmx_decompiler.specs.declared.refusals.DecompileError.TheVariants.{Refused, Memory}

-- the reason of an error has a property, unless the error is `Memory`
abbrev pub IsRefusal : DecompileError → (NoSpelling → Type 0) → Type 0
IsRefusal (Refused why) holds = holds why
IsRefusal Memory holds = Unit {0}

-- the refusal of a number of stores or elements that is too large, if any
abbrev pub too_many : (stores elements : ℕ) → Option NoSpelling
too_many stores elements =
    if nat_lt STORES stores then Some (spelling.TooManyStores stores)
    else if nat_lt ALL_ELEMENTS elements then Some (spelling.TooManyElements elements)
    else None

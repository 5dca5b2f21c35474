-- The entries of a table of refused lines.
use Rattle.std.specs.Prelude.{◌≡◌, ℕ, nat_eq, List}
use Rattle.std.specs.Map.{lookup}
use Rattle.kmn_base.specs.declared.codes.Code.{Code}
use Rattle.kmn_base.specs.declared.refusals.Refusal.{Refusal}
use Rattle.source_faults.specs.Stubs.{code_at}

-- the entries have the code with which each line is refused
pub record HasCodes (refusals : List Refusal) (entries : List (ℕ × Code)) : Type 0 where
  pub found : (line : ℕ) → lookup (nat_eq line) entries ≡ code_at refusals line

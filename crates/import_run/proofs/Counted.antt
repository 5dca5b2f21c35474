-- The number of lines of the bytes that are left where they are one.
use Rattle.std.proofs.Common.{◌≡◌, ℕ, ◌<◌, ◌≤◌, List, [], ◌∷◌, length, refl, arith}
use Rattle.import_run.specs.Printed.{line_count}

pub one_byte_is_a_line : (rest : List ℕ) → 1 ≤ length rest → length rest < 2 → line_count rest ≡ 1
one_byte_is_a_line [] some few = absurd (omega (arith, some))
one_byte_is_a_line (byte ∷ []) some few = refl
one_byte_is_a_line (byte ∷ next ∷ bytes) some few = absurd (omega (arith, few))

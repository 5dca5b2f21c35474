-- A warning of each rank.
use Rattle.std.proofs.Common.{◌≡◌, ℕ, zero, suc, ◌+◌, ◌*◌, ◌/◌, ◌%◌, ◌<◌, [], refl, ◌∙◌, arith}
use Rattle.name_warnings.specs.declared.warning.Warning.{Warning}
use Rattle.name_warnings.specs.declared.warning.WarningKind.{WarningKind}
use Rattle.name_warnings.specs.declared.warning.WarningKind.TheVariants as kind
use Rattle.dead_rules.specs.DeadRules.{is_later, rank}

-- a kind whose code is before W07, and one whose code is after it
abbrev kind_of : ℕ → WarningKind
kind_of zero = kind.UnusedStore []
kind_of (suc n) = kind.KeyNeverPressed

abbrev warning_at : ℕ → ℕ → Warning
warning_at line rest = record { line = line; kind = kind_of rest }

abbrev pub ranked : ℕ → Warning
ranked n = warning_at (n / 2) (n % 2)

rank_at : (line rest : ℕ) → rest < 2 → rank (warning_at line rest) ≡ 2 * line + rest
unfolding rank is_later
rank_at line zero few =
    let early : rank (warning_at line zero) ≡ 2 * line = refl in
    let same : 2 * line ≡ 2 * line + zero = omega arith in
    early ∙ same
rank_at line (suc zero) few =
    let late : rank (warning_at line (suc zero)) ≡ 2 * line + 1 = refl in
    let same : 2 * line + 1 ≡ 2 * line + suc zero = omega arith in
    late ∙ same
rank_at line (suc (suc rest)) few = absurd (omega (arith, few))

pub rank_of_ranked : (n : ℕ) → rank (ranked n) ≡ n
rank_of_ranked n =
    let few : n % 2 < 2 = omega arith in
    let whole : 2 * (n / 2) + n % 2 ≡ n = omega arith in
    rank_at (n / 2) (n % 2) few ∙ whole

use Rattle.std.proofs.Common.{◌≡◌, ◌++◌}
use Rattle.kmx_verifier.proofs.tables.copied_groups.Given as goal

abbrev pub invariant-loop-group : goal.invariant-loop-group
invariant-loop-group l = l.groups ++ l.group-iterator ≡ l.file.groups

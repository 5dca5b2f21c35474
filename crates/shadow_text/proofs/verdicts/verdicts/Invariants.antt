use Rattle.std.proofs.Common.{◌≡◌, ◌++◌, drop}
use Rattle.shadow_text.specs.Verdicts.{groups_verdicts}
use Rattle.shadow_text.proofs.verdicts.verdicts.Given as goal

abbrev pub invariant-loop-group : goal.invariant-loop-group
invariant-loop-group l = l.all.items ++ groups_verdicts l.tables l.group (drop l.group l.groups) ≡ groups_verdicts l.tables 0 l.groups

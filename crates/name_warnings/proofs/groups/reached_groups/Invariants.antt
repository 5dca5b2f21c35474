use Rattle.std.proofs.Common.{◌≡◌, []}
use Rattle.source_uses.specs.Uses.{begin_uses}
use Rattle.name_warnings.specs.Groups.{reached_after, with_uses}
use Rattle.name_warnings.proofs.groups.reached_groups.Given as goal

abbrev pub invariant-loop-place : goal.invariant-loop-place
invariant-loop-place l = l.reached.keys ≡ reached_after l.names l.groups l.place (with_uses l.names [] (begin_uses l.program.begins))

use Rattle.std.proofs.Common.{◌≡◌, drop}
use Rattle.name_warnings.specs.Groups.{with_uses}
use Rattle.name_warnings.proofs.groups.add_entered.Given as goal

abbrev pub invariant-loop-found : goal.invariant-loop-found
invariant-loop-found l = with_uses l.names l.reached.keys (drop l.found-index l.uses) ≡ with_uses l.names l.fn.reached.keys l.uses

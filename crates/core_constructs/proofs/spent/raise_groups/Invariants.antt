use Rattle.std.proofs.Common.{◌≡◌, drop}
use Rattle.std.specs.List.{fold}
use Rattle.core_constructs.specs.Spent.{after_number}
use Rattle.core_constructs.proofs.spent.raise_groups.Given as goal

abbrev pub invariant-loop-number : goal.invariant-loop-number
invariant-loop-number l = fold (after_number l.facts l.groups l.before) l.units (drop l.number-index l.reached) ≡ fold (after_number l.facts l.groups l.before) l.fn.units l.reached

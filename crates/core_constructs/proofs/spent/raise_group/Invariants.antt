use Rattle.std.proofs.Common.{◌≡◌, drop}
use Rattle.std.specs.List.{fold}
use Rattle.core_constructs.specs.Spent.{after_rule}
use Rattle.core_constructs.proofs.spent.raise_group.Given as goal

abbrev pub invariant-loop-rule : goal.invariant-loop-rule
invariant-loop-rule l = fold (after_rule l.facts l.spent l.group) l.units (drop l.rule-index l.rules) ≡ fold (after_rule l.facts l.spent l.group) l.fn.units l.rules

use Rattle.std.proofs.Common.{◌≡◌, drop, map}
use Rattle.std.specs.Prelude.{max}
use Rattle.std.specs.List.{fold}
use Rattle.core_constructs.specs.Queued.{rule_effects, group_effects}
use Rattle.core_constructs.proofs.queued.group_effects.Given as goal

abbrev pub invariant-loop-rule : goal.invariant-loop-rule
invariant-loop-rule l = fold max l.most (map (rule_effects l.group) (drop l.rule-index l.rules)) ≡ group_effects l.group

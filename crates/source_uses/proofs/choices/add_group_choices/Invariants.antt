use Rattle.std.proofs.Common.{◌≡◌, ◌++◌, flat_map, take}
use Rattle.source_uses.specs.Choices.{rule_choices}
use Rattle.source_uses.proofs.choices.add_group_choices.Given as goal

abbrev pub invariant-loop-rule : goal.invariant-loop-rule
invariant-loop-rule l = l.choices.items ≡ l.fn.choices.items ++ flat_map (rule_choices l.asked) (take l.rule-index l.rules)

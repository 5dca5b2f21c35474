use Rattle.std.proofs.Common.{◌≡◌}
use Rattle.std.specs.Prelude.{flat_map, fold, max}
use Rattle.decompile_program.specs.Marks.{rule_marks}
use Rattle.decompile_program.proofs.greatest.in_rules.Given as goal

abbrev pub invariant-loop-rule : goal.invariant-loop-rule
invariant-loop-rule l = fold max l.greatest (flat_map rule_marks l.rule-iterator) ≡ fold max l.fn.least (flat_map rule_marks l.group.rules)

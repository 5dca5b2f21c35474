use Rattle.std.proofs.Common.{◌≡◌, take}
use Rattle.std.specs.Prelude.{flat_map}
use Rattle.rule_model.specs.declared.tables.Group.{Group}
use Rattle.rule_trace.specs.Coverage.{rule_lines}
use Rattle.rule_trace.proofs.coverage.record_lines.Given as goal

abbrev pub invariant-loop-group : goal.invariant-loop-group
invariant-loop-group l = l.lines.items ≡ flat_map (λ (group : Group). rule_lines group.rules) (take l.group-index l.tables.groups)

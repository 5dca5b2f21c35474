use Rattle.std.proofs.Common.{◌≡◌}
use Rattle.std.specs.Prelude.{flat_map}
use Rattle.decompile_program.specs.WrittenOut.{rule_values}
use Rattle.kmx_decompiler.specs.Values.{with_values}
use Rattle.kmx_decompiler.proofs.values.add_rules.Given as goal

abbrev pub invariant-loop-rule : goal.invariant-loop-rule
invariant-loop-rule l = with_values l.names l.values (flat_map rule_values l.rule-iterator) ≡ with_values l.names l.initial.values (flat_map rule_values l.group.rules)

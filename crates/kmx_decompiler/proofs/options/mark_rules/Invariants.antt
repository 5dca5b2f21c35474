use Rattle.std.proofs.Common.{◌≡◌}
use Rattle.std.specs.List.{flat_map}
use Rattle.rule_model.specs.Tab.{rule_options}
use Rattle.indexed_tables.specs.OptionFlags.{with_flags}
use Rattle.kmx_decompiler.proofs.options.mark_rules.Given as goal

abbrev pub invariant-loop-rule : goal.invariant-loop-rule
invariant-loop-rule l = with_flags l.flags (flat_map rule_options l.rule-iterator) ≡ with_flags l.fn.flags (flat_map rule_options l.group.rules)

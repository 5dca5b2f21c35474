use Rattle.std.proofs.Common.{◌≡◌}
use Rattle.std.specs.Prelude.{flat_map}
use Rattle.indexed_tables.specs.OptionFlags.{with_flags}
use Rattle.decompile_program.specs.Names.{named_by_rule}
use Rattle.decompile_program.proofs.used.mark_rules.Given as goal

abbrev pub invariant-loop-rule : goal.invariant-loop-rule
invariant-loop-rule l = with_flags l.flags (flat_map named_by_rule l.rule-iterator) ≡ with_flags l.fn.flags (flat_map named_by_rule l.group.rules)

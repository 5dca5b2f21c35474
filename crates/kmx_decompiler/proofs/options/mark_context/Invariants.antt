use Rattle.std.proofs.Common.{◌≡◌}
use Rattle.std.specs.List.{flat_map}
use Rattle.rule_model.specs.Tab.{pattern_options}
use Rattle.indexed_tables.specs.OptionFlags.{with_flags}
use Rattle.kmx_decompiler.proofs.options.mark_context.Given as goal

abbrev pub invariant-loop-pattern : goal.invariant-loop-pattern
invariant-loop-pattern l = with_flags l.flags (flat_map pattern_options l.pattern-iterator) ≡ with_flags l.fn.flags (flat_map pattern_options l.fn.context)

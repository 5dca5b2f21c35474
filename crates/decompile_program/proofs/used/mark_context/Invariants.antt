use Rattle.std.proofs.Common.{◌≡◌}
use Rattle.std.specs.Prelude.{flat_map}
use Rattle.indexed_tables.specs.OptionFlags.{with_flags}
use Rattle.decompile_program.specs.Names.{named_by_pattern}
use Rattle.decompile_program.proofs.used.mark_context.Given as goal

abbrev pub invariant-loop-pattern : goal.invariant-loop-pattern
invariant-loop-pattern l = with_flags l.flags (flat_map named_by_pattern l.pattern-iterator) ≡ with_flags l.fn.flags (flat_map named_by_pattern l.fn.context)

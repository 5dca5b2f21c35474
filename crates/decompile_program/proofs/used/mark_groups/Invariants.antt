use Rattle.std.proofs.Common.{◌≡◌}
use Rattle.std.specs.Prelude.{flat_map}
use Rattle.indexed_tables.specs.OptionFlags.{with_flags}
use Rattle.decompile_program.specs.Names.{named_by_group}
use Rattle.decompile_program.proofs.used.mark_groups.Given as goal

abbrev pub invariant-loop-group : goal.invariant-loop-group
invariant-loop-group l = with_flags l.flags (flat_map named_by_group l.group-iterator) ≡ with_flags l.fn.flags (flat_map named_by_group l.file.groups)

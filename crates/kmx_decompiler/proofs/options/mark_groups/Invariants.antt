use Rattle.std.proofs.Common.{◌≡◌}
use Rattle.std.specs.List.{flat_map}
use Rattle.rule_model.specs.Tab.{group_options}
use Rattle.indexed_tables.specs.OptionFlags.{with_flags}
use Rattle.kmx_decompiler.proofs.options.mark_groups.Given as goal

abbrev pub invariant-loop-group : goal.invariant-loop-group
invariant-loop-group l = with_flags l.flags (flat_map group_options l.group-iterator) ≡ with_flags l.fn.flags (flat_map group_options l.file.groups)

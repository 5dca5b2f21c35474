use Rattle.std.proofs.Common.{◌≡◌}
use Rattle.std.specs.List.{flat_map}
use Rattle.rule_model.specs.Tab.{output_options}
use Rattle.indexed_tables.specs.OptionFlags.{with_flags}
use Rattle.kmx_decompiler.proofs.options.mark_outputs.Given as goal

abbrev pub invariant-loop-output : goal.invariant-loop-output
invariant-loop-output l = with_flags l.flags (flat_map output_options l.output-iterator) ≡ with_flags l.fn.flags (flat_map output_options l.fn.outputs)

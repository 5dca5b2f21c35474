use Rattle.std.proofs.Common.{◌≡◌}
use Rattle.std.specs.List.{list_any}
use Rattle.kmx_decompiler.specs.Causes.{is_unspelled_output}
use Rattle.kmx_decompiler.proofs.causes.are_unspelled_outputs.Given as goal

abbrev pub invariant-loop-output : goal.invariant-loop-output
invariant-loop-output l = list_any (is_unspelled_output l.names) l.output-iterator ≡ list_any (is_unspelled_output l.names) l.fn.outputs

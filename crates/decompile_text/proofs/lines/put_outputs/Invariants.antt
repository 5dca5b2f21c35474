use Rattle.std.proofs.Common.{◌≡◌}
use Rattle.decompile_text.specs.OneByOne.{with_outputs}
use Rattle.decompile_text.proofs.lines.put_outputs.Given as goal

abbrev pub invariant-loop-output : goal.invariant-loop-output
invariant-loop-output l = with_outputs l.names l.page l.output-iterator ≡ with_outputs l.names l.initial.page l.fn.outputs

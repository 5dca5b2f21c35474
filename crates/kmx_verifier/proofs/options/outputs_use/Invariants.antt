use Rattle.std.proofs.Common.{◌≡◌}
use Rattle.rule_model.specs.Tab.{output_options}
use Rattle.kmx_verifier.specs.Options.{used_in}
use Rattle.kmx_verifier.proofs.options.outputs_use.Given as goal

abbrev pub invariant-loop-output : goal.invariant-loop-output
invariant-loop-output l = used_in output_options l.store l.output-iterator ≡ used_in output_options l.store l.fn.outputs

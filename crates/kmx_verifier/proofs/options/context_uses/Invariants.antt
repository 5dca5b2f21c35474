use Rattle.std.proofs.Common.{◌≡◌}
use Rattle.rule_model.specs.Tab.{pattern_options}
use Rattle.kmx_verifier.specs.Options.{used_in}
use Rattle.kmx_verifier.proofs.options.context_uses.Given as goal

abbrev pub invariant-loop-pattern : goal.invariant-loop-pattern
invariant-loop-pattern l = used_in pattern_options l.store l.pattern-iterator ≡ used_in pattern_options l.store l.fn.context

use Rattle.std.proofs.Common.{◌≡◌}
use Rattle.std.specs.List.{list_any}
use Rattle.kmx_verifier.specs.Options.{used_in_rule}
use Rattle.kmx_verifier.proofs.options.rules_use.Given as goal

abbrev pub invariant-loop-rule : goal.invariant-loop-rule
invariant-loop-rule l = list_any (λ rule. used_in_rule l.store rule) l.rule-iterator ≡ list_any (λ rule. used_in_rule l.store rule) l.group.rules

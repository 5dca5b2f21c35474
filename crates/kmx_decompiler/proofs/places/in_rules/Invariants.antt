use Rattle.std.proofs.Common.{◌≡◌, ◌+◌, ◌*◌, length}
use Rattle.kmx_format.specs.declared.sizes.TheConstants.{RULE_BYTES}
use Rattle.kmx_decompiler.specs.Places.{rule_causes}
use Rattle.kmx_decompiler.specs.Least.{lesser}
use Rattle.kmx_decompiler.proofs.places.in_rules.Given as goal

abbrev pub invariant-loop-rule : goal.invariant-loop-rule
invariant-loop-rule l = record {
  least : lesser (rule_causes l.names l.place l.rule-iterator) l.least ≡ lesser (rule_causes l.names l.fn.place l.group.rules) l.fn.least;
  place : l.place + RULE_BYTES * length l.rule-iterator ≡ l.fn.place + RULE_BYTES * length l.group.rules;
}

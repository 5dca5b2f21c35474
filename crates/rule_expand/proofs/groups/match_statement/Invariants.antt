use Rattle.std.proofs.Common.{◌≡◌, drop}
use Rattle.std.specs.Prelude.{find}
use Rattle.rule_model.specs.Src.{is_on_match}
use Rattle.rule_expand.proofs.groups.match_statement.Given as goal

abbrev pub invariant-loop-rule : goal.invariant-loop-rule
invariant-loop-rule l = find is_on_match (drop l.rule-index l.rules) ≡ find is_on_match l.rules

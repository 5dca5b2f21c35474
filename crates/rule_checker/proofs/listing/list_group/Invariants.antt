use Rattle.std.proofs.Common.{◌≡◌, drop, List, ◌++◌}
use Rattle.rule_model.specs.declared.program.RuleDef.{RuleDef}
use Rattle.rule_checker.specs.Limits.{in_line_order}
use Rattle.rule_checker.specs.Listing.{listed}
use Rattle.rule_checker.proofs.listing.list_group.Given as goal

abbrev pub invariant-loop-rule : goal.invariant-loop-rule
invariant-loop-rule l =
    (more : List RuleDef)
    → listed l.shared l.counted l.listing (in_line_order l.waiting (drop l.rule-index l.rules ++ more))
    ≡ listed l.shared l.counted l.initial.listing (in_line_order l.initial.waiting (l.rules ++ more))

use Rattle.std.proofs.Common.{◌≡◌, [], ◌++◌, take, drop}
use Rattle.store_table.specs.First.{all_of}
use Rattle.item_checker.specs.Items.{rule_refusal}
use Rattle.item_checker.proofs.rules.add_rules_refusals.Given as goal

abbrev pub invariant-loop-rule : goal.invariant-loop-rule
invariant-loop-rule l =
    l.refusals ++ all_of (rule_refusal l.facts) (take l.rule-index l.rules) (drop l.rule-index l.rules)
    ≡ l.fn.refusals ++ all_of (rule_refusal l.facts) [] l.rules

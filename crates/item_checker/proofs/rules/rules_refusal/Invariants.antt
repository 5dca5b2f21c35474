use Rattle.std.proofs.Common.{◌≡◌, [], take, drop}
use Rattle.store_table.specs.First.{earlier, first_of}
use Rattle.item_checker.specs.Items.{rule_refusal}
use Rattle.item_checker.proofs.rules.rules_refusal.Given as goal

abbrev pub invariant-loop-rule : goal.invariant-loop-rule
invariant-loop-rule l =
    earlier l.first (first_of (rule_refusal l.facts) (take l.rule-index l.rules) (drop l.rule-index l.rules))
    ≡ first_of (rule_refusal l.facts) [] l.rules

use Rattle.std.proofs.Common.{◌≡◌, drop}
use Rattle.store_table.specs.First.{first_code}
use Rattle.item_checker.specs.Items.{rule_output_code}
use Rattle.item_checker.proofs.rules.rule_outputs_code.Given as goal

abbrev pub invariant-loop-item : goal.invariant-loop-item
invariant-loop-item l =
    first_code (rule_output_code l.facts l.rule) (drop l.item-index l.rule.output)
    ≡ first_code (rule_output_code l.facts l.rule) l.rule.output

use Rattle.std.proofs.Common.{◌≡◌, ◌++◌, drop}
use Rattle.std.specs.Prelude.{flat_map}
use Rattle.store_table.specs.Known.{rule_options}
use Rattle.item_checker.proofs.facts.add_rules_options.Given as goal

abbrev pub invariant-loop-rule : goal.invariant-loop-rule
invariant-loop-rule l =
    l.options ++ flat_map rule_options (drop l.rule-index l.rules) ≡ l.initial.options ++ flat_map rule_options l.rules

use Rattle.std.proofs.Common.{◌≡◌, [], take, drop}
use Rattle.store_table.specs.First.{earlier, first_of}
use Rattle.item_checker.specs.Items.{rules_refusal}
use Rattle.item_checker.proofs.rules.groups_refusal.Given as goal

abbrev pub invariant-loop-group : goal.invariant-loop-group
invariant-loop-group l =
    earlier l.first (first_of (rules_refusal l.facts) (take l.group-index l.groups) (drop l.group-index l.groups))
    ≡ first_of (rules_refusal l.facts) [] l.groups

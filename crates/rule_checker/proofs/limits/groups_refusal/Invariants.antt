use Rattle.std.proofs.Common.{◌≡◌, [], take, drop}
use Rattle.store_table.specs.First.{earlier, first_of}
use Rattle.rule_checker.specs.Limits.{group_refusal}
use Rattle.rule_checker.proofs.limits.groups_refusal.Given as goal

abbrev pub invariant-loop-before : goal.invariant-loop-before
invariant-loop-before l =
    earlier l.first (first_of group_refusal (take l.before l.groups) (drop l.before l.groups)) ≡ first_of group_refusal [] l.groups

use Rattle.std.proofs.Common.{◌≡◌, [], ◌++◌, take, drop}
use Rattle.store_table.specs.First.{all_of}
use Rattle.rule_checker.specs.AllLimits.{listed_group_refusal}
use Rattle.rule_checker.proofs.listing.add_groups_refusals.Given as goal

abbrev pub invariant-loop-before : goal.invariant-loop-before
invariant-loop-before l =
    l.refusals ++ all_of listed_group_refusal (take l.before l.groups) (drop l.before l.groups) ≡ l.fn.refusals ++ all_of listed_group_refusal [] l.groups

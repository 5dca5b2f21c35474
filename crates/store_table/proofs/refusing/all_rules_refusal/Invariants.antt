use Rattle.std.proofs.Common.{◌≡◌, [], take, drop}
use Rattle.store_table.specs.First.{earlier, first_of}
use Rattle.store_table.specs.Names.{rules_refusal}
use Rattle.store_table.proofs.refusing.all_rules_refusal.Given as goal

abbrev pub invariant-loop-group : goal.invariant-loop-group
invariant-loop-group l = earlier l.first (first_of (rules_refusal l.stated) (take l.group-index l.groups) (drop l.group-index l.groups)) ≡ first_of (rules_refusal l.stated) [] l.groups

use Rattle.std.proofs.Common.{◌≡◌, drop, flat_map}
use Rattle.std.specs.List.{fold}
use Rattle.std.specs.Ordering.{nat_cmp}
use Rattle.std.specs.BTreeSet.{insert_key}
use Rattle.core_constructs.specs.Reached.{entered_from}
use Rattle.core_constructs.proofs.reached.add_entered_from.Given as goal

abbrev pub invariant-loop-number : goal.invariant-loop-number
invariant-loop-number l = fold (insert_key nat_cmp) l.reached (flat_map (entered_from l.groups) (drop l.number-index l.numbers)) ≡ fold (insert_key nat_cmp) l.fn.reached (flat_map (entered_from l.groups) l.numbers)

use Rattle.std.proofs.Common.{◌≡◌, drop}
use Rattle.rule_checker.specs.Walking.{with_names}
use Rattle.rule_checker.proofs.totals.add_names.Given as goal

abbrev pub invariant-loop-item : goal.invariant-loop-item
invariant-loop-item l = with_names l.totals (drop l.item-index l.items) ≡ with_names l.initial.totals l.items

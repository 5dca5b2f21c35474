use Rattle.std.proofs.Common.{◌≡◌, drop}
use Rattle.std.specs.List.{list_all}
use Rattle.rule_shadow.specs.Covers.{is_condition_of}
use Rattle.rule_shadow.proofs.covering.conditions_too.Given as goal

abbrev pub invariant-loop-item : goal.invariant-loop-item
invariant-loop-item l = list_all (is_condition_of l.tables l.context) (drop l.item-index l.items) ≡ list_all (is_condition_of l.tables l.context) (l.items)

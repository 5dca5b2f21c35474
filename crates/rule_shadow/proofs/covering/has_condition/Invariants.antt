use Rattle.std.proofs.Common.{◌≡◌, drop}
use Rattle.std.specs.List.{list_any}
use Rattle.rule_shadow.specs.Covers.{same_condition}
use Rattle.rule_shadow.proofs.covering.has_condition.Given as goal

abbrev pub invariant-loop-item : goal.invariant-loop-item
invariant-loop-item l = list_any (same_condition l.tables l.condition) (drop l.item-index l.context) ≡ list_any (same_condition l.tables l.condition) (l.context)

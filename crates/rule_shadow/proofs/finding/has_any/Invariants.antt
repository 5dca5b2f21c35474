use Rattle.std.proofs.Common.{◌≡◌, drop}
use Rattle.std.specs.List.{list_any}
use Rattle.kmx_format.specs.Writable.{is_any}
use Rattle.rule_shadow.proofs.finding.has_any.Given as goal

abbrev pub invariant-loop-item : goal.invariant-loop-item
invariant-loop-item l = list_any is_any (drop l.item-index l.context) ≡ list_any is_any l.context

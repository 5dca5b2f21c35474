use Rattle.std.proofs.Common.{◌≡◌, ◌++◌, take}
use Rattle.source_names.specs.Causes.{items_caused, rule_item_cause}
use Rattle.source_names.proofs.items.add_rule_items.Given as goal

abbrev pub invariant-loop-item : goal.invariant-loop-item
invariant-loop-item l = l.causes.items ≡ l.fn.causes.items ++ items_caused l.line (rule_item_cause l.stores l.groups) (take l.item-index l.items)

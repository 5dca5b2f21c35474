use Rattle.std.proofs.Common.{◌≡◌, take}
use Rattle.std.specs.Prelude.{flat_map}
use Rattle.rule_model.specs.Naming.{item_elements}
use Rattle.rule_expand.specs.Lookups.{source_names}
use Rattle.rule_expand.proofs.stores.store_of.Given as goal

abbrev pub invariant-loop-item : goal.invariant-loop-item
invariant-loop-item l = l.elements.items ≡ flat_map (item_elements (source_names l.names) l.before) (take l.item-index l.item-items)

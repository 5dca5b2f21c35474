use Rattle.std.proofs.Common.{◌≡◌, [], drop}
use Rattle.rule_model.specs.Naming.{stores_onto}
use Rattle.rule_expand.specs.Lookups.{source_names}
use Rattle.rule_expand.proofs.stores.statement_stores.Given as goal

abbrev pub invariant-loop-store : goal.invariant-loop-store
invariant-loop-store l = stores_onto (source_names l.names) l.made.items (drop l.store-index l.stores) ≡ stores_onto (source_names l.names) [] l.stores

use Rattle.std.proofs.Common.{◌≡◌, drop}
use Rattle.std.specs.List.{find}
use Rattle.rule_model.specs.Tab.{is_dictionary}
use Rattle.indexed_tables.proofs.own_keys.dictionary_elements.Given as goal

abbrev pub invariant-loop-store : goal.invariant-loop-store
invariant-loop-store l = find is_dictionary (drop l.store-index l.stores) ≡ find is_dictionary l.stores

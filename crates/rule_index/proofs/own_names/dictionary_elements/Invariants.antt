use Rattle.std.proofs.Common.{◌≡◌}
use Rattle.std.specs.List.{find}
use Rattle.rule_model.specs.Tab.{is_dictionary}
use Rattle.rule_index.proofs.own_names.dictionary_elements.Given as goal

abbrev pub invariant-loop-store : goal.invariant-loop-store
invariant-loop-store l = find is_dictionary l.store-iterator ≡ find is_dictionary l.file.stores

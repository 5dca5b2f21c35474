use Rattle.std.proofs.Common.{◌≡◌, ◌++◌, map}
use Rattle.rule_model.specs.declared.tables.Store.{Store}
use Rattle.decompile_program.proofs.all_names.names_of_stores.Given as goal

abbrev pub invariant-loop-store : goal.invariant-loop-store
invariant-loop-store l = l.names ++ map (λ (store : Store). store.name) l.store-iterator ≡ map (λ (store : Store). store.name) l.file.stores

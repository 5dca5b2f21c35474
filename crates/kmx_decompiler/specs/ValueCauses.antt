-- The values without a spelling, by store.
use Rattle.std.specs.Prelude.{Bool, List, map}
use Rattle.rule_model.specs.declared.tables.Store.{Store}
use Rattle.kmx_decompiler.specs.Causes.{is_unspelled_value}

-- for each store, whether its content is a value without a spelling
abbrev pub unspelled_values : List Store → List Bool
unspelled_values stores = map (λ (store : Store). is_unspelled_value store.elements) stores

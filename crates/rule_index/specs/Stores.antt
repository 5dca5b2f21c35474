-- The elements of all stores.
use Rattle.std.specs.Prelude.{◌≤◌, List, All, length, map}
use Rattle.kmn_base.specs.declared.items.Element.{Element}
use Rattle.kmn_base.specs.declared.limits.TheConstants.{STORE_ELEMENTS}
use Rattle.rule_model.specs.declared.tables.Store.{Store}

-- the elements of each store of a file, in their order
abbrev pub store_contents : List Store → List (List Element)
store_contents stores = map (λ (store : Store). store.elements) stores

-- no store has more elements than are indexed
abbrev pub HaveFewElements : List Store → Type 0
HaveFewElements stores = All (λ (store : Store). length store.elements ≤ STORE_ELEMENTS) stores

-- How many names are read at most: the store of the names has no more elements than a store may have.
use Rattle.std.proofs.Common.{ℕ, ◌≤◌, List, [], ◌∷◌, length, arith}
use Rattle.std.specs.Prelude.{find}
use Rattle.kmn_base.specs.declared.items.Element.{Element}
use Rattle.kmn_base.specs.declared.limits.TheConstants.{STORE_ELEMENTS}
use Rattle.rule_model.specs.declared.tables.Store.{Store}
use Rattle.rule_model.specs.Tab.{is_dictionary, store_elements}
use Rattle.rule_model.proofs.KeyNames.{dictionary_has}
use Rattle.rule_index.specs.Stores.{HaveFewElements}

-- 1 if a word has begun, else 0
abbrev pub begun : List ℕ → ℕ
begun [] = 0
begun (b ∷ bytes) = 1

-- the store of the names has no more elements than a store may have
pub few_elements : (stores : List Store) → HaveFewElements stores → length (store_elements (find is_dictionary stores)) ≤ STORE_ELEMENTS
few_elements stores few = dictionary_has (λ (elements : List Element). length elements ≤ STORE_ELEMENTS) stores (omega arith) few

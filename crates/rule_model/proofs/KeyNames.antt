-- The store of a file's custom keys is one of its stores: a property of the elements of all stores is a property of its elements.
use Rattle.std.proofs.Common.{Bool, true, false, List, [], ◌∷◌, Option, Some, cond}
use Rattle.std.specs.Prelude.{All, find}
use Rattle.std.proofs.lemmas.List.Elements.{All-head, All-tail}
use Rattle.kmn_base.specs.declared.items.Element.{Element}
use Rattle.rule_model.specs.declared.tables.Store.{Store}
use Rattle.rule_model.specs.Tab.{is_dictionary, store_elements}

module _ (P : List Element → Type 0) where
  chosen : (is : Bool) (store : Store) (other : Option Store) → P store.elements → P (store_elements other) → P (store_elements (cond is (Some store) other))
  chosen true store other here rest = here
  chosen false store other here rest = rest

  -- if there is no such store, there are no elements
  pub dictionary_has : (stores : List Store) → P [] → All (λ (store : Store). P store.elements) stores → P (store_elements (find is_dictionary stores))
  dictionary_has [] none all = none
  dictionary_has (store ∷ stores) none all =
      chosen (is_dictionary store) store (find is_dictionary stores)
      (All-head (λ (s : Store). P s.elements) store stores all)
      (dictionary_has stores none (All-tail (λ (s : Store). P s.elements) store stores all))

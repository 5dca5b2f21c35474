-- The first element of a store that is hidden, element by element.
use Rattle.std.proofs.Common.{◌≡◌, ℕ, ◌+◌, ◌<◌, if◌then◌else◌, Some, List, ◌∷◌, drop, length, get_or, sym, ap, ◌∙◌}
use Rattle.std.proofs.lemmas.List.{drop_more}
use Rattle.source_uses.specs.declared.contents.StoreElement.{StoreElement}
use Rattle.source_warnings.specs.Repeated.{first_hidden, is_hidden}

pub hidden_step : (names : List (List ℕ)) (partners elements : List StoreElement) (place : ℕ) (found : StoreElement)
    → place < length elements → found ≡ get_or elements place found
    → first_hidden names partners place (drop place elements)
    ≡ (if is_hidden names partners place found then Some (place + 1) else first_hidden names partners (place + 1) (drop (place + 1) elements))
hidden_step names partners elements place found h e =
    ap (first_hidden names partners place) (drop_more elements place found h ∙ ap (λ x. x ∷ drop (place + 1) elements) (sym e))

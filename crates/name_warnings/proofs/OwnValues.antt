-- The values of the stores that are options, store by store.
use Rattle.std.proofs.Common.{◌≡◌, ℕ, ◌+◌, ◌<◌, List, ◌∷◌, drop, length, get_or, sym, ap, ◌∙◌}
use Rattle.std.proofs.lemmas.List.{drop_more}
use Rattle.rule_model.specs.declared.program.StoreDef.{StoreDef}
use Rattle.source_uses.specs.declared.contents.Contents.{Contents}
use Rattle.name_warnings.specs.Values.{with_own_value, with_own_values}

pub own_step : (contents : Contents) (options : List (List ℕ)) (given more : List (List ℕ × List ℕ)) (stores : List StoreDef) (i : ℕ) (store : StoreDef)
    → i < length stores → store ≡ get_or stores i store → more ≡ with_own_value contents options given store
    → with_own_values contents options more (drop (i + 1) stores) ≡ with_own_values contents options given (drop i stores)
own_step contents options given more stores i store h e added =
    ap (λ values. with_own_values contents options values (drop (i + 1) stores)) added
    ∙ sym (ap (with_own_values contents options given) (drop_more stores i store h ∙ ap (λ s. s ∷ drop (i + 1) stores) (sym e)))

use Rattle.std.proofs.Common.{◌≡◌, ℕ, false, List, Some, refl, sym, ◌∙◌, ap, subst}
use Rattle.kmn_base.specs.declared.items.Element.{Element}
use Rattle.option_store.specs.Cells.{cell_at}
use Rattle.rule_model.specs.Content.{elements_at}
use Rattle.rule_model.specs.Keyboard.{Numbered, StoreMeaning}
use Rattle.rule_model.specs.Match.{same_value}
use Rattle.rule_model.specs.Tab.{tab}
use Rattle.rule_matching.specs.MatchState.{MatchStateValue, content_at}
use Rattle.rule_matching.proofs.StoreContents.{elements_held}
use Rattle.rule_matching.proofs.match_state.MatchState.is_same.Goals as goal

pub returns-in-Store : goal.returns-in-Store
returns-in-Store c =
    let text : List ℕ = (cell_at c.self.inside.options.now c.args.store).text in
    let value : List Element = elements_at (tab c.self.inside.indexed.now).stores (Some c.value_store-value.result) in
    subst (λ (m : MatchStateValue). c.same_elements.result ≡ same_value (content_at m (Numbered c.args.store)) (elements_at (tab m.tables).stores (Some c.value_store-value.result))) c.self.view_is
    (c.same_elements.ensures ∙ ap (λ (elements : List Element). same_value elements value)
    (elements_held c.self.inside.indexed.now text c.in-Store.held ∙ c.in-Store.ensures.value))
    ∙ ap (same_value (content_at c.args.self.now (Numbered c.args.store))) c.value_store-value.ensures

pub returns-in-Host : goal.returns-in-Host
returns-in-Host c =
    let stores : List StoreMeaning = (tab c.self.inside.indexed.now).stores in
    let value : ℕ = c.value_store-value.result in
    let apart = c.self.invariant.2.current c.args.store (c.in-Host.ensures.host refl) value in
    subst (λ (m : MatchStateValue). false ≡ same_value (content_at m (Numbered c.args.store)) (elements_at (tab m.tables).stores (Some value))) c.self.view_is
    (sym apart ∙ ap (λ (elements : List Element). same_value elements (elements_at stores (Some value))) c.in-Host.ensures.value)
    ∙ ap (same_value (content_at c.args.self.now (Numbered c.args.store))) c.value_store-value.ensures

use Rattle.std.proofs.Common.{◌≡◌, ℕ, List, Some, ◌∙◌, sym, subst}
use Rattle.option_store.specs.Cells.{cell_at}
use Rattle.rule_model.specs.Keyboard.{Numbered}
use Rattle.rule_model.specs.Content.{elements_at}
use Rattle.rule_model.specs.Tab.{tab}
use Rattle.rule_matching.specs.MatchState.{MatchStateValue, content_at}
use Rattle.rule_matching.proofs.StoreContents.{elements_held}
use Rattle.rule_matching.proofs.match_state.MatchState.held_store.Goals as goal

pub returns-in-Store-clause-value : goal.returns-in-Store-clause-value
returns-in-Store-clause-value c =
    let text : List ℕ = (cell_at c.self.inside.options.now c.args.store).text in
    subst (λ (m : MatchStateValue). content_at m (Numbered c.args.store) ≡ elements_at (tab m.tables).stores (Some c.in-Store.value)) c.self.view_is
    (sym (elements_held c.self.inside.indexed.now text c.in-Store.value ∙ c.in-Store.ensures.value))

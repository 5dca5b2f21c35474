use Rattle.std.proofs.Common.{◌≡◌, ℕ, List, map, ◌∙◌, ap, subst}
use Rattle.std.specs.Prelude.{slice_get}
use Rattle.kmn_base.specs.declared.items.Element.{Element}
use Rattle.kmn_base.specs.declared.items.Element.TheVariants.{Char}
use Rattle.option_store.specs.Cells.{cell_at}
use Rattle.rule_model.specs.Keyboard.{Numbered}
use Rattle.rule_matching.specs.MatchState.{MatchStateValue, content_at}
use Rattle.rule_matching.proofs.StoreContents.{elements_held}
use Rattle.rule_matching.proofs.match_state.MatchState.get.Goals as goal

pub returns-in-Store : goal.returns-in-Store
returns-in-Store c =
    let text : List ℕ = (cell_at c.self.inside.options.now c.args.store).text in
    subst (λ (m : MatchStateValue). c.element_at.result ≡ slice_get (content_at m (Numbered c.args.store)) c.args.place) c.self.view_is
    (c.element_at.ensures ∙ ap (λ (elements : List Element). slice_get elements c.args.place) (elements_held c.self.inside.indexed.now text c.in-Store.value ∙ c.in-Store.ensures.value))

pub returns-in-Host : goal.returns-in-Host
returns-in-Host c =
    subst (λ (m : MatchStateValue). c.element_in_text.result ≡ slice_get (content_at m (Numbered c.args.store)) c.args.place) c.self.view_is
    (c.element_in_text.ensures ∙ (ap (λ (text : List ℕ). slice_get (map Char text) c.args.place) c.host_text.ensures ∙ ap (λ (elements : List Element). slice_get elements c.args.place) c.in-Host.ensures.value))

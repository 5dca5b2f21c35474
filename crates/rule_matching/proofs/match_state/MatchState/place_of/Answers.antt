use Rattle.std.proofs.Common.{◌≡◌, ℕ, List, map, ◌∙◌, ap, subst}
use Rattle.kmn_base.specs.declared.items.Element.{Element}
use Rattle.kmn_base.specs.declared.items.Element.TheVariants.{Char}
use Rattle.option_store.specs.Cells.{cell_at}
use Rattle.rule_model.specs.Keyboard.{Numbered}
use Rattle.rule_model.specs.Match.{place_of}
use Rattle.rule_matching.specs.MatchState.{MatchStateValue, content_at}
use Rattle.rule_matching.proofs.Lying.{place_in_text}
use Rattle.rule_matching.proofs.StoreContents.{elements_held}
use Rattle.rule_matching.proofs.match_state.MatchState.place_of.Goals as goal

pub returns-in-Store : goal.returns-in-Store
returns-in-Store c =
    let text : List ℕ = (cell_at c.self.inside.options.now c.args.store).text in
    subst (λ (m : MatchStateValue). c.place_of.result ≡ place_of c.args.item (content_at m (Numbered c.args.store))) c.self.view_is
    (c.place_of.ensures ∙ ap (λ (elements : List Element). place_of c.args.item elements) (elements_held c.self.inside.indexed.now text c.in-Store.value ∙ c.in-Store.ensures.value))

pub returns-in-Host : goal.returns-in-Host
returns-in-Host c =
    subst (λ (m : MatchStateValue). c.place_in_text.result ≡ place_of c.args.item (content_at m (Numbered c.args.store))) c.self.view_is
    (c.place_in_text.ensures ∙ (place_in_text c.args.item c.host_text.result.now ∙ ap (λ (text : List ℕ). place_of c.args.item (map Char text)) c.host_text.ensures ∙ ap (λ (elements : List Element). place_of c.args.item elements) c.in-Host.ensures.value))

use Rattle.std.proofs.Common.{◌≡◌, List, map, sym, ◌∙◌, ap, subst}
use Rattle.std.specs.Prelude.{option_map}
use Rattle.kmn_base.specs.declared.items.Item.{Item}
use Rattle.kmn_base.specs.Lists.{window}
use Rattle.rule_model.specs.declared.tables.Rule.{Rule}
use Rattle.rule_model.specs.Choose.{first}
use Rattle.rule_model.specs.Hold.{holds}
use Rattle.rule_model.specs.Tab.{tab_rule, tab_group}
use Rattle.rule_model.proofs.PlainKeyboard.{chosen_first}
use Rattle.rule_matching.specs.MatchState.{MatchStateValue, content_at}
use Rattle.event_text.specs.Texts.{LeftValue}
use Rattle.rule_engine.specs.Event.{EventValue, content_in, match_state_of}
use Rattle.rule_engine.proofs.Contexts.{first_in_window}
use Rattle.rule_engine.proofs.event.PressEvent.chosen_in.Goals as goal

pub returns-clause-chosen : goal.returns-clause-chosen
returns-clause-chosen c =
    let event : EventValue = c.args.self.now in
    let using_keys = c.args.group.now.using_keys in
    let rules : List Rule = c.args.group.now.rules in
    let here : MatchStateValue → List Item → _ = λ (m : MatchStateValue) (items : List Item).
    first (holds (content_at m) items c.args.press) (map (tab_rule m.tables.stores using_keys) rules) in
    let last : c.cache.result.now ≡ window event.state.left = c.cache.ensures ∙ (ap (λ (v : LeftValue). v.cache) c.fill.ensures ∙ ap (λ (e : EventValue). window e.state.left) c.self.view_is) in
    subst (λ (m : MatchStateValue). option_map (λ (rule : Rule). (tab_rule m.tables.stores using_keys rule, c.first_held.new.caught)) c.first_held.result ≡ here m c.cache.result.now)
    (c.of-moment.ensures ∙ ap match_state_of c.self.view_is) c.first_held.ensures.held
    ∙ (ap (here (match_state_of event)) last
    ∙ (first_in_window (content_in event) event.state.left c.args.press event.tables.stores using_keys rules c.requires.short
    ∙ sym (chosen_first event.tables c.args.press (tab_group event.tables.stores c.args.group.now) event.state)))

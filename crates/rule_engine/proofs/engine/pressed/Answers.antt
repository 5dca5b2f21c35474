use Rattle.std.proofs.Common.{◌≡◌, ◌≤◌, List, length, sym, ◌∙◌, ap, subst}
use Rattle.kmn_base.specs.declared.items.Item.{Item}
use Rattle.kmn_base.specs.Lists.{characters, window, read_again}
use Rattle.kmn_base.proofs.ReadingAgain.{reading_again_gives_the_text}
use Rattle.option_store.specs.Meaning.{option_values, option_saves}
use Rattle.rule_model.specs.declared.tables.Tables.{Tables}
use Rattle.rule_model.specs.KeyEvent.{after_key, outcome_of, inserted}
use Rattle.rule_model.specs.ChosenLines.{lines_of_press}
use Rattle.rule_model.specs.Tab.{tab}
use Rattle.rule_matching.specs.PlaceMemory.{rooms}
use Rattle.rule_engine.specs.Event.{CanAct, EventValue, keyboard_of}
use Rattle.rule_engine.proofs.Windows.{window_is_few}
use Rattle.rule_engine.proofs.engine.pressed.Goals as goal

pub returns-clause-outcome : goal.returns-clause-outcome
returns-clause-outcome c =
    let before : List Item = read_again c.args.workspace.cache.items c.args.left.now in
    let acts = c.press.ensures ∙ ap (λ (e : EventValue). record e { state = after_key (keyboard_of e) c.args.key e.state; lines = lines_of_press (keyboard_of e) c.args.key e.state }) c.begin-event.ensures in
    let lent : characters before ≡ c.press.new.event.lent
    = reading_again_gives_the_text c.args.workspace.cache.items c.args.left.now ∙ sym (ap (λ (e : EventValue). e.lent) acts) in
    c.finish.ensures.outcome before lent ∙ ap (λ (e : EventValue). outcome_of before e.state) acts

pub returns-clause-engine : goal.returns-clause-engine
returns-clause-engine c =
    let before : List Item = read_again c.args.workspace.cache.items c.args.left.now in
    let acts = c.press.ensures ∙ ap (λ (e : EventValue). record e { state = after_key (keyboard_of e) c.args.key e.state; lines = lines_of_press (keyboard_of e) c.args.key e.state }) c.begin-event.ensures in
    let lent : characters before ≡ c.press.new.event.lent
    = reading_again_gives_the_text c.args.workspace.cache.items c.args.left.now ∙ sym (ap (λ (e : EventValue). e.lent) acts) in
    let tables : c.args.indexed.now ≡ c.press.new.event.tables = sym (ap (λ (e : EventValue). e.tables) acts) in
    let context = c.finish.ensures.cache ∙ ap (λ (e : EventValue). window e.state.left) acts in
    let current = ap (λ (t : Tables). option_values (tab t).stores c.finish.result.workspace.options) tables ∙ (c.finish.ensures.current ∙ ap (λ (e : EventValue). e.state.current) acts) in
    let saved = ap (λ (t : Tables). option_saves (tab t).stores c.finish.result.workspace.options) tables ∙ (c.finish.ensures.saved ∙ ap (λ (e : EventValue). e.state.saved) acts) in
    let inserts = c.finish.ensures.inserted before lent ∙ ap (λ (e : EventValue). inserted before e.state.left) acts in
    let chose = c.finish.ensures.chosen ∙ ap (λ (e : EventValue). e.lines) acts in
    λ i. record { tables = c.args.indexed.now; context = context i; current = current i; saved = saved i; inserted = inserts i; chosen = chose i }

pub returns-clause-work : goal.returns-clause-work
returns-clause-work c =
    let acts = c.press.ensures ∙ ap (λ (e : EventValue). record e { state = after_key (keyboard_of e) c.args.key e.state; lines = lines_of_press (keyboard_of e) c.args.key e.state }) c.begin-event.ensures in
    let tables : c.press.new.event.tables ≡ c.args.indexed.now = ap (λ (e : EventValue). e.tables) acts in
    let left = c.finish.result.workspace in
    let can = subst (λ (t : Tables). CanAct t left.options left.truths.items (rooms left.places)) tables c.finish.ensures.can in
    record {
      runnable = c.requires.work.runnable;
      few = subst (λ (items : List Item). length items ≤ 64) (sym c.finish.ensures.cache) (window_is_few c.press.new.event.state.left);
      stores = can.stores;
      others = can.others;
      right = can.right;
      text = c.finish.ensures.few;
      room = c.finish.ensures.room;
      places = can.places;
    }

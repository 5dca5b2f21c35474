use Rattle.std.proofs.Common.{◌≡◌, ◌+◌, ◌<◌, [], length, true, sym, ◌∙◌, ap, subst, arith}
use Rattle.std.specs.Prelude.{is_some}
use Rattle.rule_model.specs.declared.event_state.EventState.{EventState}
use Rattle.rule_model.specs.Content.{option_number}
use Rattle.rule_model.specs.Keyboard.{Numbered}
use Rattle.rule_model.specs.Tab.{tab}
use Rattle.option_store.specs.Cells.{set_cell}
use Rattle.rule_engine.specs.Event.{EventValue, keyboard_of}
use Rattle.rule_engine.proofs.OptionSteps.{event_after_set}
use Rattle.rule_matching.specs.PlaceMemory.{rooms}
use Rattle.rule_matching.proofs.StoreContents.{is_option_within}
use Rattle.rule_engine.proofs.Truths.{acts_on}
use Rattle.rule_engine.proofs.OtherStores.{set_keeps}
use Rattle.rule_engine.proofs.event.PressEvent.set_current.Goals as goal

pub returns-then-is_some : goal.returns-then-is_some
returns-then-is_some c =
    let state : EventState = record {
      left = c.self.inside.left.items;
      current = [];
      saved = [];
      pass = c.self.inside.pass;
      stopped = c.self.inside.stopped;
      beeps = c.self.inside.beeps;
      entered = c.self.inside.entered;
      put = c.self.inside.left.put;
      saves = c.self.inside.saves;
    } in
    let option : is_some (option_number (tab c.self.inside.indexed.now).stores (Numbered c.args.store)) ≡ true
    = ap is_some (sym c.option_number.ensures) ∙ (sym c.is_some.ensures ∙ c.if-is_some.true) in
    let within = is_option_within c.self.inside.indexed.now c.args.store option in
    let few : c.args.store < length c.self.inside.options = omega (arith, within, c.self.invariant.0.stores) in
    let own : c.args.value < length c.self.inside.indexed.now.stores
    = subst (λ (e : EventValue). c.args.value < length e.tables.stores) (sym c.self.view_is) c.requires.value in
    event_after_set c.self.inside.indexed.now c.self.inside.left.lent c.self.inside.lines.items c.self.inside.options c.set.new.self c.args.store state c.args.self.now few c.self.view_is c.args.value own c.set.ensures

pub invariant_of-self : goal.invariant_of-self
invariant_of-self c =
    let option : is_some (option_number (tab c.self.inside.indexed.now).stores (Numbered c.args.store)) ≡ true
    = ap is_some (sym c.option_number.ensures) ∙ (sym c.is_some.ensures ∙ c.if-is_some.true) in
    let before = subst (λ (e : EventValue). c.args.store + 1 < length (keyboard_of e).stores) (sym c.self.view_is) c.requires.store in (
      acts_on c.self.inside.indexed.now c.self.inside.options c.set.new.self c.self.inside.truths.items (rooms c.self.inside.places) c.args.store (set_cell c.args.value) c.self.invariant.0 before
          (set_keeps (tab c.self.inside.indexed.now).stores c.args.value) option c.set.ensures,
      c.self.invariant.1,
    )

use Rattle.std.proofs.Common.{◌≡◌, ◌<◌, length, true, sym, ◌∙◌, ap, arith}
use Rattle.std.specs.Prelude.{is_some}
use Rattle.rule_model.specs.Content.{option_number}
use Rattle.rule_model.specs.Keyboard.{Numbered}
use Rattle.rule_model.specs.Tab.{tab}
use Rattle.rule_matching.specs.PlaceMemory.{rooms}
use Rattle.rule_matching.proofs.StoreContents.{is_option_within, option_within}
use Rattle.rule_engine.proofs.Truths.{acts_on_saved}
use Rattle.rule_engine.proofs.OptionSteps.{save_follows, nothing_saved}
use Rattle.rule_engine.proofs.event.PressEvent.save_current.Goals as goal

pub invariant_of-self : goal.invariant_of-self
invariant_of-self c =
    let option : is_some (option_number (tab c.self.inside.indexed.now).stores (Numbered c.args.store)) ≡ true
    = ap is_some (sym c.option_number.ensures) ∙ (sym c.is_some.ensures ∙ c.if-is_some.true) in
    let within = is_option_within c.self.inside.indexed.now c.args.store option in
    let few : c.args.store < length c.self.inside.options = omega (arith, within, c.self.invariant.0.stores) in (
      acts_on_saved c.self.inside.indexed.now c.self.inside.options c.save.new.self c.self.inside.truths.items (rooms c.self.inside.places) c.args.store c.self.invariant.0 few option c.save.ensures,
      c.self.invariant.1,
    )

pub returns-then-is_some : goal.returns-then-is_some
returns-then-is_some c = grind (arith, option_within, save_follows, nothing_saved)

pub returns-else-is_some : goal.returns-else-is_some
returns-else-is_some c = grind (arith, option_within, save_follows, nothing_saved)

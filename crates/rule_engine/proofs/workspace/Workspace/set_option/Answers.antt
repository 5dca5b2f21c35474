use Rattle.std.proofs.Common.{◌<◌, length, refl, arith}
use Rattle.option_store.specs.Cells.{changed, set_cell}
use Rattle.rule_engine.proofs.HeldTexts.{held_the_same, others_given, others_held}
use Rattle.rule_engine.proofs.workspace.Workspace.set_option.Goals as goal

pub returns-in-Some-clause-options : goal.returns-in-Some-clause-options
returns-in-Some-clause-options c =
    let few : c.args.store < length c.args.self.now.options = omega (arith, c.requires.store, c.requires.cells) in
    held_the_same c.args.indexed.now c.args.self.now.options (changed c.args.store (set_cell c.in-Some.value) c.args.self.now.options) c.hold_store.new.self.options
    c.args.store c.in-Some.value c.args.text.now few c.in-Some.ensures.same refl c.hold_store.ensures.options

pub returns-in-Some-clause-others : goal.returns-in-Some-clause-others
returns-in-Some-clause-others c =
    let few : c.args.store < length c.args.self.now.options = omega (arith, c.requires.store, c.requires.cells) in
    others_held c.args.indexed.now c.args.self.now.options (changed c.args.store (set_cell c.in-Some.value) c.args.self.now.options) c.hold_store.new.self.options
    c.args.store c.in-Some.value few c.requires.option c.requires.others refl c.hold_store.ensures.options

pub returns-in-None-clause-others : goal.returns-in-None-clause-others
returns-in-None-clause-others c =
    let few : c.args.store < length c.args.self.now.options = omega (arith, c.requires.store, c.requires.cells) in
    others_given c.args.indexed.now c.args.self.now.options c.host_set.new.self.options c.args.store c.args.text.now c.host_set.result few c.requires.option c.requires.others
    (c.in-None.ensures.apart refl) c.host_set.ensures.options

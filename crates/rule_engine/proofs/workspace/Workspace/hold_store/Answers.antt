use Rattle.std.proofs.Common.{rules, ◌≡◌, ◌≢◌, ◌-◌, List, Bool, length, sym, ◌∙◌, ap}
use Rattle.rule_model.specs.Tab.{tab}
use Rattle.option_store.specs.Cells.{changed, save_cell}
use Rattle.rule_engine.proofs.Truths.{truths_at_counted, truths_by, truths_counted, truths_held, truths_kept_held, written_over}
use Rattle.rule_engine.proofs.workspace.Workspace.hold_store.Goals as goal

pub returns-then-store-platform-clause-truths : goal.returns-then-store-platform-clause-truths
returns-then-store-platform-clause-truths c =
    let truths : List Bool = c.find_truths.new.truths in
    let count = truths_counted c.args.indexed.now truths c.stated-stated.result.now c.find_truths.ensures in
    let before = truths_at_counted c.args.indexed.now c.args.self.now.truths.items c.args.self.now.options c.requires.truths in
    let last : c.args.store ≡ length (tab c.args.indexed.now).stores - 1 = search rules in
    written_over c.args.self.now.truths.len c.args.self.now.truths.items truths (search rules) (count ∙ sym before)
    ∙ (c.find_truths.ensures
    ∙ (ap (truths_by c.args.indexed.now) c.stated-stated.ensures
    ∙ truths_held c.args.indexed.now c.args.self.now.options c.save.new.self c.args.store c.args.value c.requires.cells
    (c.save.ensures ∙ ap (changed c.args.store save_cell) c.set.ensures) last))

pub returns-else-store-platform-clause-truths : goal.returns-else-store-platform-clause-truths
returns-else-store-platform-clause-truths c =
    let other : c.args.store ≢ length (tab c.args.indexed.now).stores - 1 = search rules in
    c.requires.truths
    ∙ truths_kept_held c.args.indexed.now c.args.self.now.options c.save.new.self c.args.store c.args.value c.requires.cells
    (c.save.ensures ∙ ap (changed c.args.store save_cell) c.set.ensures) c.requires.store other

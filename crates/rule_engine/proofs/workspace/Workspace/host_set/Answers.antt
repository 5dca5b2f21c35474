use Rattle.std.proofs.Common.{rules, ◌≡◌, ◌≢◌, ◌-◌, List, Bool, length, sym, ◌∙◌, ap, arith}
use Rattle.rule_model.specs.Tab.{tab}
use Rattle.option_store.specs.Cells.{host_cell}
use Rattle.rule_engine.proofs.Truths.{truths_by, truths_at_counted, truths_counted, truths_given, truths_kept_or_left, written_over}
use Rattle.rule_engine.proofs.workspace.Workspace.host_set.Goals as goal

pub returns-then-store-platform-clause-truths : goal.returns-then-store-platform-clause-truths
returns-then-store-platform-clause-truths c =
    let other : c.args.store ≢ length (tab c.args.indexed.now).stores - 1 = search rules in
    c.requires.truths
    ∙ truths_kept_or_left c.args.indexed.now c.args.self.now.options c.host_set.new.self c.args.store (host_cell c.args.text.now) c.host_set.result
    c.requires.cells c.requires.store other c.host_set.ensures

pub returns-clause-truths : goal.returns-clause-truths
returns-clause-truths c =
    let truths : List Bool = c.find_truths.new.truths in
    let count = truths_counted c.args.indexed.now truths c.as_slice.result.now c.find_truths.ensures in
    let before = truths_at_counted c.args.indexed.now c.args.self.now.truths.items c.args.self.now.options c.requires.truths in
    let last : c.args.store ≡ length (tab c.args.indexed.now).stores - 1 = search rules in
    written_over c.args.self.now.truths.len c.args.self.now.truths.items truths (search rules) (count ∙ sym before)
    ∙ (c.find_truths.ensures
    ∙ (ap (truths_by c.args.indexed.now) (c.as_slice.ensures ∙ c.in_ok-content.ensures)
    ∙ truths_given c.args.indexed.now c.args.self.now.options c.host_set-2.new.self c.args.store c.args.text.now c.requires.cells last c.in_ok-host_set.ensures))

pub returns-then-store-platform-clause-options : goal.returns-then-store-platform-clause-options
returns-then-store-platform-clause-options c = grind (arith, truths_given)

pub returns-then-store-platform-clause-cache : goal.returns-then-store-platform-clause-cache
returns-then-store-platform-clause-cache c = grind (arith, truths_given)

pub returns-then-store-platform-clause-inserted : goal.returns-then-store-platform-clause-inserted
returns-then-store-platform-clause-inserted c = grind (arith, truths_given)

pub returns-then-store-platform-clause-chosen : goal.returns-then-store-platform-clause-chosen
returns-then-store-platform-clause-chosen c = grind (arith, truths_given)

pub returns-then-store-platform-clause-places : goal.returns-then-store-platform-clause-places
returns-then-store-platform-clause-places c = grind (arith, truths_given)

pub returns-clause-options : goal.returns-clause-options
returns-clause-options c = grind (arith, truths_given)

pub returns-clause-cache : goal.returns-clause-cache
returns-clause-cache c = grind (arith, truths_given)

pub returns-clause-inserted : goal.returns-clause-inserted
returns-clause-inserted c = grind (arith, truths_given)

pub returns-clause-chosen : goal.returns-clause-chosen
returns-clause-chosen c = grind (arith, truths_given)

pub returns-clause-places : goal.returns-clause-places
returns-clause-places c = grind (arith, truths_given)

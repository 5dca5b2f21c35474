use Rattle.std.proofs.Common.{ℕ, List, length, ◌≤◌, ◌++◌, sym, ◌∙◌, arith, append-nil}
use Rattle.std.proofs.lemmas.List.{at_drop_all}
use Rattle.play_session.specs.Changes.{Values, values_in, values_now}
use Rattle.play_session.proofs.OptionStores.{changes_of, changes_of_all, number_of_option}
use Rattle.std.proofs.lemmas.Grind.{common_steps}
use Rattle.play_session.proofs.changes.put_changes.Goals as goal

pub returns-clause-changes : goal.returns-clause-changes
returns-clause-changes c =
    let was : Values = values_in c.args.engine.now.tables c.args.before.now in
    let is : Values = values_now c.args.engine.now in
    let all : length c.args.options.now ≤ c.loop-option.option = omega (arith, c.loop-option-test.false) in
    sym (append-nil c.loop-option.changes.items)
    ∙ sym (at_drop_all (λ (left : List ℕ). c.loop-option.changes.items ++ changes_of was is c.loop-option.option left) c.args.options.now c.loop-option.option all)
    ∙ c.loop-option.invariant.changes
    ∙ changes_of_all was is c.args.engine.now.tables c.args.options.now c.requires.options

pub returns-clause-room : goal.returns-clause-room
returns-clause-room c = grind (arith, number_of_option)

pub loop-option-preserved : goal.loop-option-preserved
loop-option-preserved c = grind (arith, common_steps)

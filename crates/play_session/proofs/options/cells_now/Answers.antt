use Rattle.std.proofs.Common.{◌≡◌, ℕ, List, length, ◌≤◌, ◌++◌, map, sym, ◌∙◌, arith, append-nil}
use Rattle.std.proofs.lemmas.List.{at_drop_all}
use Rattle.option_store.specs.Cells.{cell_at}
use Rattle.play_session.proofs.OptionStores.{values_of_cells}
use Rattle.std.proofs.lemmas.Grind.{common_steps}
use Rattle.play_session.proofs.options.cells_now.Goals as goal

pub returns-clause-values : goal.returns-clause-values
returns-clause-values c =
    let all : length c.args.options.now ≤ c.loop-option.option = omega (arith, c.loop-option-test.false) in
    let each : c.loop-option.cells.items ≡ map (cell_at c.options-held.result.now) c.args.options.now
    = sym (append-nil c.loop-option.cells.items)
    ∙ sym (at_drop_all (λ (left : List ℕ). c.loop-option.cells.items ++ map (cell_at c.options-held.result.now) left) c.args.options.now c.loop-option.option all)
    ∙ c.loop-option.invariant in
    values_of_cells c.args.engine.now c.options-held.result.now c.loop-option.cells.items c.args.options.now c.requires each
    c.options-held.ensures.stores c.options-held.ensures.current c.options-held.ensures.saved

pub loop-option-preserved : goal.loop-option-preserved
loop-option-preserved c = grind (arith, common_steps)

pub returns-clause-count : goal.returns-clause-count
returns-clause-count c = grind (arith, common_steps)

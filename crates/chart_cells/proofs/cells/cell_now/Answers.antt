use Rattle.std.proofs.Common.{◌≡◌, subst}
use Rattle.std.specs.Prelude.{IfOk}
use Rattle.chart_board.specs.declared.cells.Cell.{Cell}
use Rattle.chart_cells.proofs.Presses.{deletes_few, seen_is_cell}
use Rattle.chart_cells.proofs.cells.cell_now.Goals as goal

pub cell_seen-requires : goal.cell_seen-requires
cell_seen-requires c =
    deletes_few c.args.session.now c.engine-before.result.now c.in_ok-engine.engine c.key-outcome.new.self c.editor-editor.result.now c.left-left.result.now c.args.press c.key-outcome.result
    (record {
      engine_is = c.engine-before.ensures.value;
      left = c.editor-editor.ensures.left;
      right = c.editor-editor.ensures.right;
      context = c.editor-editor.ensures.context;
      few = c.requires;
    })
    c.in_ok-engine.ensures c.left-left.ensures c.key-outcome.ensures.outcome c.key-outcome.ensures.engine

pub returns : goal.returns
returns c =
    subst (λ (wanted : Cell). IfOk c.cell_seen.result (λ found. found ≡ wanted))
    (seen_is_cell c.args.session.now c.engine-before.result.now c.in_ok-engine.engine c.key-outcome.new.self c.editor-editor.result.now c.left-left.result.now c.args.press c.key-outcome.result
    (record {
      engine_is = c.engine-before.ensures.value;
      left = c.editor-editor.ensures.left;
      right = c.editor-editor.ensures.right;
      context = c.editor-editor.ensures.context;
      few = c.requires;
    })
    c.in_ok-engine.ensures c.left-left.ensures c.key-outcome.ensures.outcome c.key-outcome.ensures.engine)
    c.cell_seen.ensures

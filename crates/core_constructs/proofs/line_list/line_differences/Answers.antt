use Rattle.std.proofs.lemmas.Result.{IfOk-weaker}
use Rattle.core_constructs.proofs.Lines.{told_so}
use Rattle.core_constructs.proofs.line_list.line_differences.Goals as goal

pub returns : goal.returns
returns c =
    IfOk-weaker c.told.result _ _
    (λ told is. told_so c.args.tables.now c.args.facts.now c.args.spent.now c.in_ok-all.all c.as_slice.result.now c.as_slice-2.result.now c.in_ok-lines.lines c.in_ok-lines-2.lines c.as_slice-3.result.now told
    c.in_ok-all.ensures c.as_slice.ensures c.in_ok-lines.ensures c.in_ok-lines-2.ensures c.as_slice-2.ensures c.as_slice-3.ensures is)
    c.told.ensures

use Rattle.import_lines.proofs.LineEnds.{ends_same}
use Rattle.import_lines.proofs.line_ends.has_same_ends.Goals as goal

pub returns : goal.returns
returns c =
    ends_same c.args.old.now c.args.new.now c.inner_ends.result c.inner_ends-2.result c.begins_lf.result c.begins_lf-2.result c.ends_cr.result c.ends_cr-2.result
    c.is_empty.result c.is_empty-2.result c.ends_whole.result c.ends_whole-2.result c.args.old_joined c.args.new_joined
    c.inner_ends.ensures c.inner_ends-2.ensures c.if-inner_ends.false
    c.begins_lf.ensures c.begins_lf-2.ensures c.if-begins_lf.false
    c.ends_cr.ensures c.ends_cr-2.ensures c.if-ends_cr.false
    c.is_empty.ensures c.is_empty-2.ensures c.if-is_empty.false
    c.ends_whole.ensures c.ends_whole-2.ensures c.if-ends_whole.false

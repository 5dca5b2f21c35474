use Rattle.std.proofs.Common.{sym, ◌∙◌, ap}
use Rattle.import_lines.specs.Written.{line_bytes, has_same_line_ends}
use Rattle.import_lines.proofs.Utf8Tests.{text_passes, other_fails}
use Rattle.import_lines.proofs.line_ends.can_replace.Goals as goal

pub returns-in-Ok : goal.returns-in-Ok
returns-in-Ok c =
    c.has_same_line_ends.ensures
    ∙ ap (has_same_line_ends (line_bytes c.args.source.now c.args.logical)) c.in-Ok.ensures.cases.0
    ∙ sym (text_passes c.args.new.now (has_same_line_ends (line_bytes c.args.source.now c.args.logical) c.args.new.now) c.if-new-gt-TEXT_BYTES.false c.in-Ok.ensures.cases.1)

pub returns-in-Err : goal.returns-in-Err
returns-in-Err c = sym (other_fails c.args.new.now (has_same_line_ends (line_bytes c.args.source.now c.args.logical) c.args.new.now) c.in-Err.ensures.cases.0)

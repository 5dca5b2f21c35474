use Rattle.std.proofs.Common.{◌≡◌, ℕ, List, Bool, IfOk, subst, sym, ◌∙◌, ap}
use Rattle.kmn_lines.specs.Lines.{logicals}
use Rattle.import_lines.specs.Written.{is_read_as}
use Rattle.import_lines.proofs.Utf8Tests.{text_passes, other_fails}
use Rattle.import_lines.proofs.written.is_read_as.Goals as goal

pub returns-in-Ok : goal.returns-in-Ok
returns-in-Ok c =
    subst (λ (wanted : Bool). IfOk c.is_text_of.result (λ (read : Bool). read ≡ wanted))
    (ap (λ (text : List ℕ). is_read_as c.args.tokens.now text (logicals text)) c.in-Ok.ensures.cases.0
    ∙ sym (text_passes c.args.line.now (is_read_as c.args.tokens.now c.args.line.now (logicals c.args.line.now)) c.if-line-gt-TEXT_BYTES.false c.in-Ok.ensures.cases.1))
    c.is_text_of.ensures

pub returns-in-Err : goal.returns-in-Err
returns-in-Err c = sym (other_fails c.args.line.now (is_read_as c.args.tokens.now c.args.line.now (logicals c.args.line.now)) c.in-Err.ensures.cases.0)

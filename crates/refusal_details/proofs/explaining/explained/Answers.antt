use Rattle.std.proofs.Common.{◌≡◌, ◌∙◌, IfOk, List, subst, arith}
use Rattle.refusal_details.specs.declared.detail.Explained.{Explained}
use Rattle.refusal_details.proofs.ExplainedBytes.{bytes_unreadable, text_is}
use Rattle.refusal_details.proofs.explaining.explained.Goals as goal

pub returns-in-Ok : goal.returns-in-Ok
returns-in-Ok c =
    subst (λ (found : List Explained). IfOk c.explained_text.result (λ list. list ≡ found))
    (text_is c.args.source.now c.in-Ok.text.now c.args.refusals.now (omega (arith, c.if-source-gt-TEXT_BYTES.false)) c.in-Ok.ensures.cases.0 c.in-Ok.ensures.cases.1) c.explained_text.ensures

pub returns-in-Err : goal.returns-in-Err
returns-in-Err c =
    subst (λ (found : List Explained). IfOk c.all_unreadable.result (λ list. list ≡ found))
    (bytes_unreadable c.args.source.now c.valid_up_to.result c.args.refusals.now (omega (arith, c.if-source-gt-TEXT_BYTES.false)) c.in-Err.ensures.cases.0
    (c.valid_up_to.ensures ∙ c.in-Err.ensures.valid_len)) c.all_unreadable.ensures

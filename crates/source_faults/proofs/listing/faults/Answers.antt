use Rattle.std.proofs.Common.{◌≡◌, IfOk, List, subst, arith}
use Rattle.kmn_base.specs.declared.refusals.Refusal.{Refusal}
use Rattle.source_faults.proofs.SourceBytes.{text_is, bytes_are_refused}
use Rattle.source_faults.proofs.listing.faults.Goals as goal

pub returns-in-Ok : goal.returns-in-Ok
returns-in-Ok c =
    subst (λ (list : List Refusal). IfOk c.text_faults.result (λ refusals. refusals ≡ list))
    (text_is c.args.source.now c.in-Ok.text.now (omega (arith, c.if-source-gt-TEXT_BYTES.false)) c.in-Ok.ensures.cases.0 c.in-Ok.ensures.cases.1) c.text_faults.ensures

pub returns-in-Err : goal.returns-in-Err
returns-in-Err c =
    subst (λ (list : List Refusal). IfOk c.only-in-Err.result (λ refusals. refusals ≡ list))
    (bytes_are_refused c.args.source.now (omega (arith, c.if-source-gt-TEXT_BYTES.false)) c.in-Err.ensures.cases.0) c.only-in-Err.ensures

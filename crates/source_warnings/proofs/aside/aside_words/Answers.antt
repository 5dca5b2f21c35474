use Rattle.std.proofs.Common.{◌≡◌, ℕ, IfOk, List, subst, arith}
use Rattle.source_warnings.proofs.AsideBytes.{bytes_have_none, text_is}
use Rattle.source_warnings.proofs.aside.aside_words.Goals as goal

pub returns-in-Ok : goal.returns-in-Ok
returns-in-Ok c =
    subst (λ (list : List (List ℕ)). IfOk c.text_aside.result (λ words. words ≡ list))
    (text_is c.args.source.now c.in-Ok.text.now (omega (arith, c.if-source-gt-TEXT_BYTES.false)) c.in-Ok.ensures.cases.0 c.in-Ok.ensures.cases.1) c.text_aside.ensures

pub returns-in-Err : goal.returns-in-Err
returns-in-Err c =
    subst (λ (list : List (List ℕ)). IfOk c.nothing-in-Err.result (λ words. words ≡ list))
    (bytes_have_none c.args.source.now (omega (arith, c.if-source-gt-TEXT_BYTES.false)) c.in-Err.ensures.cases.0) c.nothing-in-Err.ensures

use Rattle.std.proofs.Common.{◌≡◌, false, get_or, ap, sym, ◌∙◌}
use Rattle.kmn_base.specs.Bytes.{is_blank}
use Rattle.kmn_tokens.proofs.Scans.{first_is}
use Rattle.refusal_places.proofs.FaultSteps.{step_at, step_over}
use Rattle.refusal_places.proofs.faulty.step.Goals as goal

pub returns-then-has_fault : goal.returns-then-has_fault
returns-then-has_fault c =
    let blank : is_blank (get_or c.args.bytes.now 0 0) ≡ false = sym c.is_blank.ensures ∙ c.if-is_blank.false in
    let some = c.token_size-size.ensures.some (ap is_blank (sym (first_is c.args.bytes.now c.requires.some)) ∙ blank) in
    step_at c.args.line c.args.at c.args.bytes.now _ c.token_size-size.result c.requires.some blank
    c.token_size-size.ensures.is some c.before-text.ensures (sym c.has_fault.ensures ∙ c.if-has_fault.true)

pub returns : goal.returns
returns c =
    let blank : is_blank (get_or c.args.bytes.now 0 0) ≡ false = sym c.is_blank.ensures ∙ c.if-is_blank.false in
    let some = c.token_size-size.ensures.some (ap is_blank (sym (first_is c.args.bytes.now c.requires.some)) ∙ blank) in
    step_over c.args.line c.args.at c.args.bytes.now _ c.token_size-size.result c.requires.some blank
    c.token_size-size.ensures.is c.token_size-size.ensures.within some c.before-text.ensures (sym c.has_fault.ensures ∙ c.if-has_fault.false)

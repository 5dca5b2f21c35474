use Rattle.std.proofs.Common.{◌≡◌, OnOk, Err, subst}
use Rattle.kmn_base.specs.Answers.{Answers}
use Rattle.kmn_base.specs.declared.refusals.CompileError.{CompileError}
use Rattle.kmn_tokens.specs.Scanning.{scanned_line}
use Rattle.source_faults.specs.declared.found.Found.{Found}
use Rattle.source_faults.proofs.ReadLines.{refused_on}
use Rattle.source_faults.proofs.reading.read_on.Goals as goal

pub returns-in_ok-words-in-Err-Refused : goal.returns-in_ok-words-in-Err-Refused
returns-in_ok-words-in-Err-Refused c =
    subst (λ (found : Found). OnOk c.refuse_tokens.result (c.refuse_tokens.new.found ≡ found))
    (refused_on c.args.source.now c.args.found.now c.args.logical c.in-Err-Refused.refusal c.in_ok-words-in-Err-Refused.words
    (subst (λ (error : CompileError). Answers (scanned_line c.args.source.now c.args.logical) (Err error)) c.in-Err-Refused.field-0-is c.in-Err-Refused.ensures)
    c.in_ok-words-in-Err-Refused.ensures)
    c.refuse_tokens.ensures

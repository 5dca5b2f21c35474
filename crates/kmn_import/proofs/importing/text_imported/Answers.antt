use Rattle.std.proofs.Common.{Result, subst}
use Rattle.kmn_base.specs.Answers.{Answers}
use Rattle.kmn_base.specs.declared.refusals.Refusal.{Refusal}
use Rattle.kmn_import.specs.declared.change.Imported.{Imported}
use Rattle.kmn_import.proofs.Texts.{text_read, text_refused}
use Rattle.kmn_import.proofs.importing.text_imported.Goals as goal

pub returns-in-Ok : goal.returns-in-Ok
returns-in-Ok c =
    subst (λ (stated : Result Imported Refusal). Answers stated c.source_imported.result)
    (text_read c.args.text.now c.in-Ok.source.now c.args.refusal c.if-text-gt-TEXT_BYTES.false c.in-Ok.ensures.cases.0 c.in-Ok.ensures.cases.1)
    c.source_imported.ensures

pub returns-in-Err : goal.returns-in-Err
returns-in-Err c = text_refused c.args.text.now c.args.refusal c.in-Err.ensures.cases.0

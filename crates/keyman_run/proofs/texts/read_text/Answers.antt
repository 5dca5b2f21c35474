use Rattle.std.proofs.Common.{List, ℕ, subst}
use Rattle.keyman_run.specs.Inputs.{text_of_file}
use Rattle.keyman_run.specs.Orders.{bytes_work, text_work}
use Rattle.keyman_run.specs.Steps.{States, itself}
use Rattle.keyman_run.specs.Work.{Work, given}
use Rattle.keyman_run.proofs.RunLaws.{gives_behind, gives_handed, gives_stopped}
use Rattle.keyman_run.proofs.TextLaws.{gives_stated, text_found}
use Rattle.keyman_run.proofs.texts.read_text.Goals as goal

-- the work that follows the bytes
abbrev text_behind : List ℕ → Work (List ℕ)
text_behind bytes = given (text_of_file bytes)

pub returns-in_err-bytes-clause-gives : goal.returns-in_err-bytes-clause-gives
returns-in_err-bytes-clause-gives g c =
    gives_handed itself (text_work c.args.name.now) g.F.Folder _ _ c.in_err-bytes.field-0.0 c.from_residual.result c.from_residual.ensures.1
    (gives_stopped itself itself (bytes_work c.args.name.now) text_behind g.F.Folder _ _ c.in_err-bytes.field-0.0 c.in_err-bytes.ensures)

pub returns-clause-gives : goal.returns-clause-gives
returns-clause-gives g c =
    gives_behind itself itself (bytes_work c.args.name.now) text_behind g.F.Folder _ _ _ c.in_ok-bytes.bytes _ c.in_ok-bytes.ensures
    (gives_stated itself (text_of_file c.in_ok-bytes.bytes) g.F.Folder _ c.decompiled.result
    (subst (λ (bytes : List ℕ). States itself (text_of_file bytes) c.decompiled.result) c.as_slice.ensures c.decompiled.ensures.states))

pub returns-clause-text : goal.returns-clause-text
returns-clause-text g c = λ told.
    text_found (g.F.Folder.files c.args.folder.now) c.args.name.now c.as_slice.result.now c.in_ok-bytes.bytes c.decompiled.result (c.in_ok-bytes.ensures.gives told).0 c.as_slice.ensures c.decompiled.ensures.text

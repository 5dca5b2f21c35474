use Rattle.kmn_base.proofs.SmallBytes.{bytes_small}
use Rattle.kmx_decompiler.specs.Unspelled.{unspelled}
use Rattle.keyman_run.specs.Inputs.{tables_of_file, text_of_file, unless_unspelled}
use Rattle.keyman_run.specs.Steps.{itself, verify_stop}
use Rattle.keyman_run.proofs.LoadLaws.{states_handed, states_stopped}
use Rattle.keyman_run.proofs.TextLaws.{text_has, unread_states}
use Rattle.keyman_run.proofs.texts.decompiled.Goals as goal

pub returns-in_err-file-clause-states : goal.returns-in_err-file-clause-states
returns-in_err-file-clause-states c =
    states_handed itself (text_of_file c.args.bytes.now) (verify_stop c.in_err-file.field-0.0) c.from_residual.result c.from_residual.ensures.1
    (states_stopped itself itself (tables_of_file c.args.bytes.now) (λ tables. unless_unspelled tables (unspelled c.args.bytes.now)) (verify_stop c.in_err-file.field-0.0)
    (unread_states itself c.args.bytes.now c.in_err-file.field-0.0 c.in_err-file.ensures))

pub returns-clause-text : goal.returns-clause-text
returns-clause-text c =
    text_has c.args.bytes.now c.in_ok-file.file c.in_ok-decompile.field-0 (bytes_small _ c.type_inv.bytes) c.in_ok-file.ensures.0 c.in_ok-file.ensures.1
    c.in_ok-decompile.ensures.spelled c.in_ok-decompile.ensures.text

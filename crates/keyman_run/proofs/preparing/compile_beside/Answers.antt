use Rattle.std.proofs.Common.{List, ℕ, sym, subst, Ok, Err}
use Rattle.kmn_compiler.specs.Picture.{picture_name}
use Rattle.kmn_compiler.specs.Source.{CompilesTo}
use Rattle.keyman_run.specs.Orders.{picture_work, file_work}
use Rattle.keyman_run.specs.Steps.{itself, compile_stop}
use Rattle.keyman_run.specs.Work.{and_then}
use Rattle.keyman_run.proofs.InputLaws.{compile_behind, file_in_steps, compiled_gives, uncompiled_gives}
use Rattle.keyman_run.proofs.RunLaws.{gives_as, gives_behind, gives_handed, gives_stopped}
use Rattle.keyman_run.proofs.preparing.compile_beside.Goals as goal

pub returns-in_err-picture-clause-gives : goal.returns-in_err-picture-clause-gives
returns-in_err-picture-clause-gives g c =
    gives_handed itself (file_work c.args.source.now c.args.checked.now) g.F.Folder _ _ c.in_err-picture.field-0.0 c.from_residual.result c.from_residual.ensures.1
    (gives_as itself (and_then (picture_work c.args.source.now (picture_name c.args.checked.now)) (compile_behind c.args.checked.now)) (file_work c.args.source.now c.args.checked.now) g.F.Folder _ _ _
    (sym (file_in_steps c.args.source.now c.args.checked.now))
    (gives_stopped itself itself (picture_work c.args.source.now (picture_name c.args.checked.now)) (compile_behind c.args.checked.now) g.F.Folder _ _ c.in_err-picture.field-0.0 c.in_err-picture.ensures))

pub returns-in_err-back-clause-gives : goal.returns-in_err-back-clause-gives
returns-in_err-back-clause-gives g c =
    gives_handed itself (file_work c.args.source.now c.args.checked.now) g.F.Folder _ _ (compile_stop c.in_err-back.field-0.0) c.from_residual-in_err-back.result c.from_residual-in_err-back.ensures.1
    (gives_as itself (and_then (picture_work c.args.source.now (picture_name c.args.checked.now)) (compile_behind c.args.checked.now)) (file_work c.args.source.now c.args.checked.now) g.F.Folder _ _ _
    (sym (file_in_steps c.args.source.now c.args.checked.now))
    (gives_behind itself itself (picture_work c.args.source.now (picture_name c.args.checked.now)) (compile_behind c.args.checked.now) g.F.Folder _ _ _ c.in_ok-picture.picture _ c.in_ok-picture.ensures
    (uncompiled_gives c.args.checked.now c.in_ok-picture.picture g.F.Folder _ c.in_err-back.field-0.0
    (subst (λ (picture : List ℕ). CompilesTo (Ok c.args.checked.now) picture (Err c.in_err-back.field-0.0)) c.as_slice.ensures c.in_err-back.ensures))))

pub returns-clause-gives : goal.returns-clause-gives
returns-clause-gives g c =
    gives_as itself (and_then (picture_work c.args.source.now (picture_name c.args.checked.now)) (compile_behind c.args.checked.now)) (file_work c.args.source.now c.args.checked.now) g.F.Folder _ _ _
    (sym (file_in_steps c.args.source.now c.args.checked.now))
    (gives_behind itself itself (picture_work c.args.source.now (picture_name c.args.checked.now)) (compile_behind c.args.checked.now) g.F.Folder _ _ _ c.in_ok-picture.picture _ c.in_ok-picture.ensures
    (compiled_gives c.args.checked.now c.in_ok-picture.picture g.F.Folder _ c.in_ok-back.field-0
    (subst (λ (picture : List ℕ). CompilesTo (Ok c.args.checked.now) picture (Ok c.in_ok-back.field-0)) c.as_slice.ensures c.in_ok-back.ensures)))

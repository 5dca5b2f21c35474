use Rattle.std.proofs.Common.{List, ℕ, ap}
use Rattle.kmn_compiler.specs.declared.compiling.Compiled.{Compiled}
use Rattle.rule_model.specs.declared.program.Program.{Program}
use Rattle.rule_model.specs.Src.{src}
use Rattle.keyman_run.specs.Endings.{Job}
use Rattle.keyman_run.specs.Orders.{job_work, source_work, file_work, script_work}
use Rattle.keyman_run.specs.Steps.{itself, prepared_job}
use Rattle.keyman_run.specs.Work.{Work, and_then}
use Rattle.keyman_run.specs.Work.Work.{Give}
use Rattle.keyman_run.proofs.MeaningLaws.{job_behind}
use Rattle.keyman_run.proofs.RunLaws.{gives_as, gives_value, gives_behind, gives_handed, gives_stopped}
use Rattle.keyman_run.proofs.preparing.prepare.Goals as goal

-- the work that follows the file of a program
abbrev script_behind : List ℕ → Program → Compiled → Work Job
script_behind keys program compiled = and_then (script_work (src program).dictionary keys) (λ entries. Give (record { compiled = compiled; entries = entries }))

pub returns-in_err-checked-clause-gives : goal.returns-in_err-checked-clause-gives
returns-in_err-checked-clause-gives g c =
    gives_handed prepared_job (job_work c.args.source.now c.args.keys.now) g.F.Folder _ _ c.in_err-checked.field-0.0 c.from_residual.result c.from_residual.ensures.1
    (gives_stopped itself prepared_job (source_work c.args.source.now) (job_behind c.args.source.now c.args.keys.now) g.F.Folder _ _ c.in_err-checked.field-0.0 c.in_err-checked.ensures)

pub returns-in_err-compiled-clause-gives : goal.returns-in_err-compiled-clause-gives
returns-in_err-compiled-clause-gives g c =
    gives_handed prepared_job (job_work c.args.source.now c.args.keys.now) g.F.Folder _ _ c.in_err-compiled.field-0.0 c.from_residual-in_err-compiled.result c.from_residual-in_err-compiled.ensures.1
    (gives_behind itself prepared_job (source_work c.args.source.now) (job_behind c.args.source.now c.args.keys.now) g.F.Folder _ _ _ c.in_ok-checked.checked _ c.in_ok-checked.ensures
    (gives_stopped itself prepared_job (file_work c.args.source.now c.in_ok-checked.checked) (script_behind c.args.keys.now c.in_ok-checked.checked) g.F.Folder _ _ c.in_err-compiled.field-0.0 c.in_err-compiled.ensures.gives))

pub returns-in_err-entries-clause-gives : goal.returns-in_err-entries-clause-gives
returns-in_err-entries-clause-gives g c =
    gives_handed prepared_job (job_work c.args.source.now c.args.keys.now) g.F.Folder _ _ c.in_err-entries.field-0.0 c.from_residual-in_err-entries.result c.from_residual-in_err-entries.ensures.1
    (gives_behind itself prepared_job (source_work c.args.source.now) (job_behind c.args.source.now c.args.keys.now) g.F.Folder _ _ _ c.in_ok-checked.checked _ c.in_ok-checked.ensures
    (gives_behind itself prepared_job (file_work c.args.source.now c.in_ok-checked.checked) (script_behind c.args.keys.now c.in_ok-checked.checked) g.F.Folder _ _ _ c.in_ok-compiled.compiled _ c.in_ok-compiled.ensures.gives
    (gives_stopped itself prepared_job (script_work (src c.in_ok-checked.checked).dictionary c.args.keys.now) (λ entries. Give (record { compiled = c.in_ok-compiled.compiled; entries = entries })) g.F.Folder _ _ c.in_err-entries.field-0.0
    (gives_as itself (script_work c.key_names.result.now c.args.keys.now) (script_work (src c.in_ok-checked.checked).dictionary c.args.keys.now) g.F.Folder _ _ _ (ap (λ names. script_work names c.args.keys.now) c.key_names.ensures) c.in_err-entries.ensures))))

pub returns-clause-gives : goal.returns-clause-gives
returns-clause-gives g c =
    gives_behind itself prepared_job (source_work c.args.source.now) (job_behind c.args.source.now c.args.keys.now) g.F.Folder _ _ _ c.in_ok-checked.checked _ c.in_ok-checked.ensures
    (gives_behind itself prepared_job (file_work c.args.source.now c.in_ok-checked.checked) (script_behind c.args.keys.now c.in_ok-checked.checked) g.F.Folder _ _ _ c.in_ok-compiled.compiled _ c.in_ok-compiled.ensures.gives
    (gives_behind itself prepared_job (script_work (src c.in_ok-checked.checked).dictionary c.args.keys.now) (λ entries. Give (record { compiled = c.in_ok-compiled.compiled; entries = entries })) g.F.Folder _ _ _ c.in_ok-entries.entries _
    (gives_as itself (script_work c.key_names.result.now c.args.keys.now) (script_work (src c.in_ok-checked.checked).dictionary c.args.keys.now) g.F.Folder _ _ _ (ap (λ names. script_work names c.args.keys.now) c.key_names.ensures) c.in_ok-entries.ensures)
    (gives_value prepared_job g.F.Folder _ (record { compiled = c.in_ok-compiled.compiled; entries = c.in_ok-entries.entries }))))

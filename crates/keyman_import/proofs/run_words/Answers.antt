use Rattle.std.proofs.Common.{List, ℕ, subst}
use Rattle.import_run.specs.Runs.{Runs}
use Rattle.keyman_import.proofs.run_words.Goals as goal

pub returns-in-Ok-clause-runs : goal.returns-in-Ok-clause-runs
returns-in-Ok-clause-runs g c =
    rw c.in-Ok.is (
      c.import_run.result,
      subst (λ (said : List (List ℕ)). Runs {F = g.row.F.Denot} {S = g.row.S.Denot} said g.F.Folder c.args.folder.now c.import_run.new.folder g.S.Sink c.args.out.now c.import_run.new.out c.import_run.result) c.as_slice.ensures c.import_run.ensures,
      c.exit_code.ensures,
    )

use Rattle.std.proofs.Common.{List, ℕ, subst}
use Rattle.check_run.specs.Runs.{Runs}
use Rattle.keyman_check.proofs.run_words.Goals as goal

pub returns-in-Ok-clause-runs : goal.returns-in-Ok-clause-runs
returns-in-Ok-clause-runs g c =
    rw c.in-Ok.is (
      c.check_run.result,
      subst (λ (said : List (List ℕ)). Runs {F = g.row.F.Denot} {S = g.row.S.Denot} said g.F.Folder c.args.folder.now c.check_run.new.folder g.S.Sink c.args.out.now c.check_run.new.out c.check_run.result) c.as_slice.ensures c.check_run.ensures,
      c.exit_code.ensures,
    )

use Rattle.std.proofs.Common.{List, ℕ, subst}
use Rattle.keyman_run.specs.Runs.{Runs}
use Rattle.keyman_tool.proofs.run_words.Goals as goal

pub returns-in-Ok-clause-runs : goal.returns-in-Ok-clause-runs
returns-in-Ok-clause-runs g c =
    rw c.in-Ok.is (
      c.run.result,
      subst (λ (said : List (List ℕ)). Runs {F = g.row.F.Denot} {S = g.row.S.Denot} said g.F.Folder c.args.folder.now c.run.new.folder g.S.Sink c.args.out.now c.run.new.out c.run.result) c.as_slice.ensures c.run.ensures,
      c.exit_code.ensures,
    )

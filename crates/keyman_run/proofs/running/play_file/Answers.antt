use Rattle.std.proofs.Common.{◌≡◌, List, ℕ, Some, subst}
use Rattle.kmx_verifier.specs.FaultOf.{fault_of, IsRefusal}
use Rattle.keyman_run.specs.Steps.{verify_stop}
use Rattle.keyman_run.proofs.FileRuns.{as_stop, tells_unopened}
use Rattle.keyman_run.proofs.running.play_file.Goals as goal

pub returns-in-Err : goal.returns-in-Err
returns-in-Err g c =
    tells_unopened c.args.prepared.now.compiled.bytes c.in-Err.error _ _ g.S.Sink _ _ c.print_stop.result c.requires.file
    (subst (λ (bytes : List ℕ). IsRefusal c.in-Err.error (λ fault. fault_of bytes ≡ Some fault)) c.as_slice.ensures c.in-Err.ensures)
    (as_stop _ (verify_stop c.in-Err.error) g.S.Sink _ _ c.print_stop.result c.from.ensures c.print_stop.ensures)

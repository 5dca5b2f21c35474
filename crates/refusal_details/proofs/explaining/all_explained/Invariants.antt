use Rattle.std.proofs.Common.{◌≡◌, ◌++◌, drop, map}
use Rattle.refusal_details.specs.Explained.{explained_in}
use Rattle.refusal_details.proofs.explaining.all_explained.Given as goal

abbrev pub invariant-loop-refusal : goal.invariant-loop-refusal
invariant-loop-refusal l =
    l.list ++ map (explained_in l.source l.faults l.names) (drop l.refusal-index l.refusals) ≡ map (explained_in l.source l.faults l.names) l.refusals

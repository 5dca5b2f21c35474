use Rattle.std.proofs.Common.{◌≡◌, ◌++◌, drop, map}
use Rattle.refusal_details.specs.Explained.{unreadable}
use Rattle.refusal_details.proofs.explaining.all_unreadable.Given as goal

abbrev pub invariant-loop-refusal : goal.invariant-loop-refusal
invariant-loop-refusal l =
    l.list ++ map (unreadable l.source l.size) (drop l.refusal-index l.refusals) ≡ map (unreadable l.source l.size) l.refusals

use Rattle.std.proofs.Common.{◌≡◌, ◌++◌, drop, map}
use Rattle.refusal_details.specs.Explained.{unexplained}
use Rattle.refusal_details.proofs.explaining.all_unexplained.Given as goal

abbrev pub invariant-loop-refusal : goal.invariant-loop-refusal
invariant-loop-refusal l = l.list ++ map unexplained (drop l.refusal-index l.refusals) ≡ map unexplained l.refusals

use Rattle.std.proofs.Common.{◌≡◌, ◌++◌, drop}
use Rattle.source_faults.specs.Faults.{further}
use Rattle.source_faults.proofs.listing.further.Given as goal

abbrev pub invariant-loop-refusal : goal.invariant-loop-refusal
invariant-loop-refusal l = l.kept ++ further l.refused (drop l.refusal-index l.refusals) ≡ further l.refused l.refusals

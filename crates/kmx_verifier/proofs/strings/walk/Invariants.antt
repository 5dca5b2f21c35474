use Rattle.std.proofs.Common.{length}
use Rattle.kmn_base.specs.declared.limits.TheConstants.{FILE_BYTES}
use Rattle.item_codec.specs.Walk.{items_given, results_of}
use Rattle.kmx_verifier.specs.FaultOf.{walk_fault}
use Rattle.kmx_verifier.proofs.Walking.{WalksOn}
use Rattle.kmx_verifier.proofs.strings.walk.Given as goal

abbrev pub invariant-loop-read : goal.invariant-loop-read
invariant-loop-read l =
    WalksOn l.bytes l.kind l.targets (walk_fault l.bytes l.kind l.targets l.at (results_of l.string)) (length (items_given (results_of l.string))) FILE_BYTES l.place l.count l.read-iterator

use Rattle.std.proofs.Common.{[], map}
use Rattle.kmn_base.specs.declared.limits.TheConstants.{FILE_BYTES}
use Rattle.item_codec.specs.Walk.{items_given, results_of}
use Rattle.kmx_verifier.specs.Items.{target_of}
use Rattle.kmx_verifier.specs.FaultOf.{context_fault}
use Rattle.kmx_verifier.proofs.ContextWalking.{ContextWalksOn}
use Rattle.kmx_verifier.proofs.contexts.walk_context.Given as goal

abbrev pub invariant-loop-read : goal.invariant-loop-read
invariant-loop-read l =
    ContextWalksOn l.bytes (context_fault l.bytes [] l.at (results_of l.string)) (map target_of (items_given (results_of l.string))) FILE_BYTES l.place l.targets.items l.read-iterator

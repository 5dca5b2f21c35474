use Rattle.std.proofs.Common.{sym, ◌∙◌, [], map}
use Rattle.std.proofs.lemmas.Result.{err_from_is_err_and}
use Rattle.item_codec.specs.Walk.{items_given, results_of}
use Rattle.kmx_verifier.specs.Items.{target_of}
use Rattle.kmx_verifier.specs.FaultOf.{context_fault}
use Rattle.kmn_base.specs.declared.limits.TheConstants.{FILE_BYTES}
use Rattle.kmn_base.proofs.SmallBytes.{bytes_small}
use Rattle.kmx_verifier.proofs.ContextWalking.{context_starts, context_few, context_goes_on, context_stops}
use Rattle.kmx_verifier.proofs.contexts.walk_context.Goals as goal

pub loop-read-init : goal.loop-read-init
loop-read-init c =
    rw (c.clear.ensures.items, c.into_iter-read-iterator.ensures.into_iter_gives, c.items_of-read-items.ensures)
    (context_starts c.args.bytes.now c.args.string.now FILE_BYTES c.args.at (bytes_small _ c.type_inv.string) c.requires.within)

pub returns-in_err-check_context_item-in-Ok : goal.returns-in_err-check_context_item-in-Ok
returns-in_err-check_context_item-in-Ok c =
    let p = err_from_is_err_and c.from_residual.result c.from_residual.ensures.1 in rw (p.1, p.2)
    (context_stops c.args.bytes.now (context_fault c.args.bytes.now [] c.args.at (results_of c.args.string.now)) (map target_of (items_given (results_of c.args.string.now)))
    FILE_BYTES c.loop-read.place c.loop-read.targets.items c.in-Ok.item c.next.new.self _
    (rw (sym c.in-Ok.is, sym c.in-Some.ensures.steps) c.loop-read.invariant)
    (λ before is. c.in_err-check_context_item-in-Ok.ensures before (c.deref.ensures.value ∙ is)))

pub add_target-requires : goal.add_target-requires
add_target-requires c = context_few _ _ _ _ _ _ _ c.loop-read.invariant

pub loop-read-preserved : goal.loop-read-preserved
loop-read-preserved c =
    rw (c.spelled_size-place.ensures)
    (context_goes_on c.args.bytes.now (context_fault c.args.bytes.now [] c.args.at (results_of c.args.string.now)) (map target_of (items_given (results_of c.args.string.now)))
    FILE_BYTES c.loop-read.place c.loop-read.targets.items c.add_target.new.targets.items c.in-Ok.item c.next.new.self
    (rw (sym c.in-Ok.is, sym c.in-Some.ensures.steps) c.loop-read.invariant)
    (λ before is. c.in_ok-check_context_item-in-Ok.ensures before (c.deref.ensures.value ∙ is)) c.in_ok-add_target-in-Ok.ensures)

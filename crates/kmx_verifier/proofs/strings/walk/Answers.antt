use Rattle.std.proofs.Common.{sym}
use Rattle.kmn_base.specs.declared.limits.TheConstants.{FILE_BYTES}
use Rattle.kmx_verifier.proofs.Walking.{walk_starts, walks_on}
use Rattle.kmn_base.proofs.SmallBytes.{bytes_small}
use Rattle.kmx_verifier.proofs.strings.walk.Goals as goal

pub loop-read-init : goal.loop-read-init
loop-read-init c =
    rw (c.into_iter-read-iterator.ensures.into_iter_gives, c.items_of-read-items.ensures)
    (walk_starts c.args.bytes.now c.args.kind c.args.targets.now c.args.string.now FILE_BYTES c.args.at (bytes_small _ c.type_inv.string) c.requires.within)

pub loop-read-preserved : goal.loop-read-preserved
loop-read-preserved c =
    rw (c.spelled_size-place.ensures)
    (walks_on _ _ _ _ _ _ _ _ c.in-Ok.item _ c.in_ok-check_item-in-Ok.ensures (rw (sym c.in-Ok.is, sym c.in-Some.ensures.steps) c.loop-read.invariant))

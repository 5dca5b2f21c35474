use Rattle.std.proofs.Common.{map, sym, ap, ◌∙◌, arith, refl}
use Rattle.kmn_base.specs.declared.limits.TheConstants.{EVENT_ENTRIES}
use Rattle.core_constructs.specs.Queued.{chain_effects}
use Rattle.core_constructs.proofs.Depths.{effects_settled}
use Rattle.core_constructs.proofs.queued.effects_of.Goals as goal

pub returns-then-same_counts : goal.returns-then-same_counts
returns-then-same_counts c =
    effects_settled c.loop-entry._entry EVENT_ENTRIES c.args.groups.now c.loop-entry.effects c.in_ok-next.next (omega (arith, c.loop-entry-test.true)) c.loop-entry.invariant
    (c.in_ok-next.ensures ∙ ap (λ used. map (chain_effects used) c.args.groups.now) c.as_slice.ensures)
    (sym c.as_slice-in-loop-entry.ensures ∙ c.if-same_counts.ensures.0 refl ∙ c.as_slice-in-loop-entry-2.ensures)

use Rattle.std.proofs.Common.{map, sym, ◌∙◌, arith}
use Rattle.kmn_base.specs.declared.limits.TheConstants.{EVENT_ENTRIES}
use Rattle.core_constructs.specs.Changes.{group_changes}
use Rattle.core_constructs.proofs.Depths.{changes_settled}
use Rattle.core_constructs.proofs.changes.may_change.Goals as goal

pub returns-then-same : goal.returns-then-same
returns-then-same c =
    changes_settled c.loop-entry._entry EVENT_ENTRIES c.args.tables.now.groups c.loop-entry.changes c.in_ok-next.next (omega (arith, c.loop-entry-test.true)) c.loop-entry.invariant
    (c.in_ok-next.ensures ∙ λ i. map (group_changes (c.as_slice.ensures i)) (c.as_slice-groups.ensures i))
    (sym c.as_slice-in-loop-entry.ensures ∙ c.in_ok-same.ensures.0 c.if-same.true ∙ c.as_slice-in-loop-entry-2.ensures)

use Rattle.std.proofs.Common.{sym, ap, ◌∙◌, arith, refl}
use Rattle.kmn_base.specs.declared.limits.TheConstants.{EVENT_ENTRIES}
use Rattle.core_constructs.specs.Spent.{after_groups}
use Rattle.core_constructs.proofs.Depths.{spent_settled}
use Rattle.core_constructs.proofs.spent.spent_in.Goals as goal

pub returns-then-same_numbers : goal.returns-then-same_numbers
returns-then-same_numbers c =
    spent_settled c.loop-entry._entry EVENT_ENTRIES c.args.facts.now c.args.groups.now c.loop-entry.spent c.in_ok-next.next (omega (arith, c.loop-entry-test.true)) c.loop-entry.invariant
    (c.in_ok-next.ensures ∙ ap (after_groups c.args.facts.now c.args.groups.now) c.as_slice.ensures)
    (sym c.as_slice-in-loop-entry.ensures ∙ c.if-same_numbers.ensures.0 refl ∙ c.as_slice-in-loop-entry-2.ensures)

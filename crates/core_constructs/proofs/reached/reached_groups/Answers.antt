use Rattle.std.proofs.Common.{flat_map, sym, ◌∙◌, arith, refl}
use Rattle.std.specs.List.{fold}
use Rattle.std.specs.Ordering.{nat_cmp}
use Rattle.std.specs.BTreeSet.{insert_key}
use Rattle.kmn_base.specs.declared.limits.TheConstants.{EVENT_ENTRIES}
use Rattle.core_constructs.specs.Reached.{entered_from}
use Rattle.core_constructs.proofs.Depths.{reached_settled}
use Rattle.core_constructs.proofs.reached.reached_groups.Goals as goal

pub returns-then-same_numbers : goal.returns-then-same_numbers
returns-then-same_numbers c =
    reached_settled c.loop-entry._entry EVENT_ENTRIES c.args.tables.now.groups c.args.tables.now.start_unicode c.loop-entry.numbers c.in_ok-next.next (omega (arith, c.loop-entry-test.true)) c.loop-entry.invariant.numbers
    (c.in_ok-next.ensures ∙ c.in_ok-add_entered_from.ensures ∙ λ i. fold (insert_key nat_cmp) (c.loop-entry.invariant.reached i) (flat_map (entered_from (c.as_slice-groups.ensures i)) (c.as_slice.ensures i)))
    (sym c.as_slice-in-loop-entry.ensures ∙ c.if-same_numbers.ensures.0 refl ∙ c.as_slice-in-loop-entry-2.ensures)

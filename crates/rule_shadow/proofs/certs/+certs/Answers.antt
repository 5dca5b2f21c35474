use Rattle.std.proofs.Common.{arith, ap, sym, ◌∙◌}
use Rattle.std.specs.Prelude.{filter_map, option_map}
use Rattle.rule_model.specs.Match.{item_of}
use Rattle.rule_shadow.specs.Places.{items_of}
use Rattle.rule_shadow.specs.Covers.{covers_under, covers_list}
use Rattle.rule_shadow.proofs.Rows.{walk_ended, covers_split}
use Rattle.rule_shadow.proofs.certs.+certs.Goals as goal

pub covers_parts-returns : goal.covers_parts-returns
covers_parts-returns t c =
    walk_ended c.args.subject.now.tables.now c.args.subject.now.group.now c.args.subject.now.number c.args.subject.now.rule.now c.args.narrowing.now c.args.place c.args.elements.now c.args.parts.now
    c.loop-element.next c.loop-element.element-index (omega (arith, c.loop-element-test.false)) c.loop-element.invariant.0 c.loop-element.invariant.1

pub covers_under-returns-in-Some : goal.covers_under-returns-in-Some
covers_under-returns-in-Some t c =
    let T = c.args.subject.now.tables.now in
    let by_list = covers_list T c.args.subject.now.group.now c.args.subject.now.number c.args.subject.now.rule.now c.args.narrowing.now c.in-Split.place in
    c.covers_parts.ensures
    ∙ ((λ i. by_list (filter_map item_of (c.elements.ensures i)) (c.as_slice.ensures.value i))
    ∙ (sym (covers_split T c.args.subject.now.group.now c.args.subject.now.number c.args.subject.now.rule.now c.args.narrowing.now c.in-Split.place c.in-Split.parts (items_of T c.in-Some.store)
    (sym c.split_store.ensures ∙ ap (option_map (items_of T)) c.in-Some.is))
    ∙ ap (covers_under T c.args.subject.now.group.now c.args.subject.now.number c.args.subject.now.rule.now c.args.narrowing.now) (sym c.in-Split.is)))

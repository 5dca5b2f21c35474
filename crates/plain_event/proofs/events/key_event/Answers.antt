use Rattle.std.proofs.Common.{arith}
use Rattle.std.proofs.lemmas.Grind.{common_steps}
use Rattle.plain_event.proofs.Steps.{key_done, key_passed}
use Rattle.plain_event.proofs.events.key_event.Goals as goal

pub returns-then-not-event_state-clause-made : goal.returns-then-not-event_state-clause-made
returns-then-not-event_state-clause-made c =
    key_done c.args.indexed.now c.args.state.now c.requires c.args.press _ _ _ _
    c.in_ok-begun.ensures c.in_ok-pressed.ensures.acts c.as_slice.ensures c.in_ok-outcome.ensures
    c.in_ok-after.after c.in_ok-after.ensures c.if-not-event_state.true

pub returns-clause-made : goal.returns-clause-made
returns-clause-made c =
    key_passed c.args.indexed.now c.args.state.now c.requires c.args.press _ _ _ _
    c.in_ok-begun.ensures c.in_ok-pressed.ensures.acts c.as_slice.ensures c.in_ok-outcome.ensures
    c.in_ok-after.after c.in_ok-edited.edited c.in_ok-after.ensures c.if-not-event_state.false (c.in_ok-edited.ensures.after c.args.indexed.now) c.in_ok-edited.ensures.others

pub returns-then-not-event_state-clause-lines : goal.returns-then-not-event_state-clause-lines
returns-then-not-event_state-clause-lines c = grind (arith, common_steps)

pub returns-clause-lines : goal.returns-clause-lines
returns-clause-lines c = grind (arith, common_steps)

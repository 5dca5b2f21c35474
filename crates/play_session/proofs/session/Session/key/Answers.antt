use Rattle.std.proofs.Common.{true, ◌∙◌, ap, rules, arith}
use Rattle.std.proofs.lemmas.Grind.{common_steps}
use Rattle.kmn_base.specs.declared.events.Event.TheVariants as event
use Rattle.rule_model.specs.Event.{happening}
use Rattle.play_session.specs.Session.{SessionState, session_of, after_step}
use Rattle.play_session.proofs.Stepping.{values_before, session_after}
use Rattle.play_session.proofs.session.Session.key.Goals as goal

pub returns-clause-leaves : goal.returns-clause-leaves
unfolding happening
returns-clause-leaves c =
    let session : SessionState = session_of c.self.inside.engine c.self.inside.editor c.self.inside.number c.self.inside.typed c.self.inside.changes.items in
    let was = values_before c.key_event.new.engine.tables c.self.inside.engine c.in_ok-before.before.items c.as_slice-3.result.now c.in_ok-outcome.ensures.tables c.as_slice-3.ensures.value c.in_ok-before.ensures.values in
    session_after session (event.Key c.args.press) c.key_event.new.engine c.key_event.new.editor c.next_step.new.number true c.put_changes.new.changes.items _
    c.in_ok-outcome.ensures.tables c.in_ok-outcome.ensures.state c.in_ok-outcome.ensures.inserted c.in_ok-outcome.ensures.chosen c.next_step.ensures.number was c.put_changes.ensures.changes
    (λ i. record { inserted = c.in_ok-outcome.ensures.inserted i; chosen = c.in_ok-outcome.ensures.chosen i })
    ∙ ap (λ (s : SessionState). after_step s (event.Key c.args.press)) c.self.view_is

pub returns-then-len-gt-TEXT_CHARS_AT_KEY-clause-happens : goal.returns-then-len-gt-TEXT_CHARS_AT_KEY-clause-happens
unfolding happening
returns-then-len-gt-TEXT_CHARS_AT_KEY-clause-happens c = grind (arith, common_steps)

pub returns-then-len-gt-TEXT_CHARS_AT_KEY-clause-answer : goal.returns-then-len-gt-TEXT_CHARS_AT_KEY-clause-answer
unfolding happening
returns-then-len-gt-TEXT_CHARS_AT_KEY-clause-answer c = grind (arith, common_steps)

pub returns-then-len-gt-TEXT_CHARS_AT_KEY-clause-leaves : goal.returns-then-len-gt-TEXT_CHARS_AT_KEY-clause-leaves
unfolding happening
returns-then-len-gt-TEXT_CHARS_AT_KEY-clause-leaves c = grind (arith, common_steps)

pub returns-then-len-gt-TEXT_CHARS_AT_KEY-clause-refused : goal.returns-then-len-gt-TEXT_CHARS_AT_KEY-clause-refused
unfolding happening
returns-then-len-gt-TEXT_CHARS_AT_KEY-clause-refused c = grind (arith, common_steps)

pub returns-then-len-gt-TEXT_CHARS_AT_KEY-clause-unchanged : goal.returns-then-len-gt-TEXT_CHARS_AT_KEY-clause-unchanged
unfolding happening
returns-then-len-gt-TEXT_CHARS_AT_KEY-clause-unchanged c = grind (arith, common_steps)

pub invariant_of-self : goal.invariant_of-self
unfolding happening
invariant_of-self c = grind (arith, common_steps)

pub invariant_of-self-2 : goal.invariant_of-self-2
unfolding happening
invariant_of-self-2 c = grind (arith, common_steps)

pub returns-clause-answer : goal.returns-clause-answer
unfolding happening
returns-clause-answer c = grind (arith, common_steps)

pub returns-clause-refused : goal.returns-clause-refused
unfolding happening
returns-clause-refused c = grind (arith, common_steps)

pub returns-clause-unchanged : goal.returns-clause-unchanged
unfolding happening
returns-clause-unchanged c = grind (arith, common_steps)

pub returns-clause-happens : goal.returns-clause-happens
unfolding happening
returns-clause-happens c = search rules

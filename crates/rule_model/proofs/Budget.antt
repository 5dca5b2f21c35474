-- The bounds that the budget sets for a key event.
use Rattle.std.proofs.Common.{◌<◌, refl, leb, arith}
use Rattle.std.proofs.lemmas.Bool.{cond_both, leb-false}
use Rattle.kmn_base.specs.declared.events.Event.{Event}
use Rattle.kmn_base.specs.declared.events.Event.TheVariants as event
use Rattle.rule_model.specs.declared.event_state.EventState.{EventState}
use Rattle.rule_model.specs.Keyboard.{Keyboard}
use Rattle.rule_model.specs.KeyEvent.{begin_event}
use Rattle.rule_model.specs.Event.{State, happening}
use Rattle.rule_model.specs.StepLaws.{IsWithinBudget, PressIsWithinBudget, StepsAreWithinBudget, OnlyKeysAct}
use Rattle.rule_model.proofs.Kept.{IsKept, after_key_keeps}
use Rattle.rule_model.proofs.Steps.{trace_keeps}

abbrev Within : EventState → Type 0
Within s = IsWithinBudget s.entered s.put

budget_kept : IsKept Within
budget_kept = record {
  puts = λ x s h.
      cond_both s.stopped _ _ Within (λ _. h)
      (λ _. cond_both (leb 4096 s.put) _ _ Within (λ _. h)
      (λ e. let room : s.put < 4096 = leb-false 4096 s.put e in record { groups = h.groups; items = omega arith }));
  takes = λ n s h. h;
  stops = λ s h. h;
  passes = λ s h. h;
  beeps = λ s h. h;
  sets = λ values s h. h;
  saves = λ values s h. h;
  enters = λ s few h. record { groups = omega arith; items = h.items };
}

pub press_is_within_budget : PressIsWithinBudget
press_is_within_budget kb press left current saved =
    after_key_keeps Within budget_kept kb press (begin_event left current saved) (omega arith) (record { groups = omega arith; items = omega arith })

event_is_within_budget : (kb : Keyboard) (state : State) (happened : Event) → IsWithinBudget (happening kb state happened).outcome.entered (happening kb state happened).outcome.put
unfolding happening
event_is_within_budget kb state (event.Key press) = press_is_within_budget kb press state.left state.current state.saved
event_is_within_budget kb state (event.Setting name value) = record { groups = omega arith; items = omega arith }
event_is_within_budget kb state (event.Caret place) = record { groups = omega arith; items = omega arith }
event_is_within_budget kb state (event.Edit from to text) = record { groups = omega arith; items = omega arith }

pub steps_are_within_budget : StepsAreWithinBudget
steps_are_within_budget kb events =
    trace_keeps (λ _. Unit {0}) (λ happened. IsWithinBudget happened.outcome.entered happened.outcome.put) kb
    (λ state happened _ _. (event_is_within_budget kb state happened, tt)) tt events

pub only_keys_act : OnlyKeysAct
unfolding happening
only_keys_act kb state (event.Key press) h = absurd (h press refl)
only_keys_act kb state (event.Setting name value) h = refl
only_keys_act kb state (event.Caret place) h = refl
only_keys_act kb state (event.Edit from to text) h = refl

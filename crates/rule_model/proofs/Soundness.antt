-- Each step keeps a sound left list sound.
use Rattle.std.proofs.Common.{◌≡◌, ℕ, false, List, map, Option, Some, None, leb}
use Rattle.std.specs.List.{position}
use Rattle.std.proofs.lemmas.Bool.{cond_both}
use Rattle.std.proofs.lemmas.List.Elements.{All-nil}
use Rattle.kmn_base.specs.declared.items.Element.{Element}
use Rattle.kmn_base.specs.declared.items.Element.TheVariants as element
use Rattle.kmn_base.specs.declared.keys.KeyPress.{KeyPress}
use Rattle.kmn_base.specs.declared.events.Event.TheVariants as event
use Rattle.kmn_base.specs.Lists.{characters, is_mark, IsSound}
use Rattle.kmn_base.proofs.Lists.{put_is_sound, taking_keeps_soundness}
use Rattle.kmn_base.proofs.ReadingAgain.{reading_again_is_sound}
use Rattle.rule_model.specs.declared.event_state.EventState.{EventState}
use Rattle.rule_model.specs.Keyboard.{Ref}
use Rattle.virtual_keys.specs.Fits.{is_plain}
use Rattle.rule_model.specs.KeyEvent.{begin_event, after_key}
use Rattle.rule_model.specs.Event.{State, editor_left, by_editor, after_press, has_name, set_option, happening}
use Rattle.rule_model.specs.StepLaws.{EnteringKeepsSound, ItemKeepsSound, OutputKeepsSound, DefaultKeepsSound, GroupKeepsSound, GroupsKeepSound, PressKeepsSound, EventKeepsSound, StepsAreSound}
use Rattle.rule_model.proofs.Kept.{IsKept, EnteringKeeps, act_one_keeps, act_keeps, by_default_keeps, do_group_keeps, entered_keeps}
use Rattle.rule_model.proofs.Steps.{trace_keeps}

abbrev Sound : EventState → Type 0
Sound s = IsSound s.left

sound_kept : IsKept Sound
sound_kept = record {
  puts = λ x s h. cond_both s.stopped _ _ Sound (λ _. h) (λ _. cond_both (leb 4096 s.put) _ _ Sound (λ _. h) (λ _. put_is_sound s.left x));
  takes = λ n s h. taking_keeps_soundness n s.left h;
  stops = λ s h. h;
  passes = λ s h. h;
  beeps = λ s h. h;
  sets = λ values s h. h;
  saves = λ values s h. h;
  enters = λ s few h. h;
}

entering_sound : (enter : Ref → EventState → EventState) → EnteringKeepsSound enter → EnteringKeeps Sound enter
entering_sound enter h group s few sound = h group s sound

pub item_keeps_sound : ItemKeepsSound
item_keeps_sound kb enter caught output entering = act_one_keeps Sound sound_kept kb enter (entering_sound enter entering) caught output

pub output_keeps_sound : OutputKeepsSound
output_keeps_sound kb enter caught outputs entering = act_keeps Sound sound_kept kb enter (entering_sound enter entering) caught outputs

pub default_keeps_sound : DefaultKeepsSound
default_keeps_sound kb press = by_default_keeps Sound sound_kept kb press

pub group_keeps_sound : GroupKeepsSound
group_keeps_sound kb enter press group chosen entering = do_group_keeps Sound sound_kept kb enter (entering_sound enter entering) press group chosen

pub groups_keep_sound : GroupsKeepSound
groups_keep_sound depth kb press group s h = entered_keeps Sound sound_kept kb press depth group s h h

pub press_keeps_sound : PressKeepsSound
unfolding after_key
press_keeps_sound kb press s h = groups_keep_sound 50 kb press kb.start s h

-- ---- events

editor_sound : (press : KeyPress) (state : State) → IsSound (by_editor press state).left
editor_sound press state =
    cond_both (is_plain press) _ _ (λ (after : State). IsSound after.left)
    (λ _. reading_again_is_sound state.left (editor_left press.code (characters state.left) state.right))
    (λ _. reading_again_is_sound state.left (characters state.left))

press_sound : (press : KeyPress) (s : EventState) (state : State) → IsSound s.left → IsSound (after_press press s state).left
press_sound press s state h =
    cond_both s.pass _ _ (λ (after : State). IsSound after.left)
    (λ _. editor_sound press (record state { left = s.left; current = s.current; saved = s.saved })) (λ _. h)

setting_sound : (option : Option ℕ) (value : List Element) (state : State) → IsSound state.left → IsSound (set_option option value state).left
setting_sound None value state h = h
setting_sound (Some option) value state h = h

pub event_keeps_sound : EventKeepsSound
unfolding happening
event_keeps_sound kb state (event.Key press) h =
    press_sound press (after_key kb press (begin_event state.left state.current state.saved)) state (press_keeps_sound kb press _ h)
event_keeps_sound kb state (event.Setting name value) h = setting_sound (position (has_name name) state.names) (map element.Char value) state h
event_keeps_sound kb state (event.Caret place) h = reading_again_is_sound state.left _
event_keeps_sound kb state (event.Edit from to text) h = reading_again_is_sound state.left _

pub steps_are_sound : StepsAreSound
steps_are_sound kb events =
    trace_keeps (λ state. IsSound state.left) (λ happened. IsSound happened.after.left) kb
    (λ state happened _ h. (event_keeps_sound kb state happened h, event_keeps_sound kb state happened h)) (All-nil (λ item. is_mark item ≡ false)) events

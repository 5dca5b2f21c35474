-- What each press of a load's script does.
use Rattle.std.proofs.Common.{◌≡◌, ℕ, zero, suc, ◌+◌, ◌≤◌, false, List, [], ◌∷◌, map, Option, Some, None, Ok, refl, ap, sym, ◌∙◌, subst, arith}
use Rattle.kmn_base.specs.declared.events.Event.TheVariants as event
use Rattle.kmn_base.specs.declared.items.Element.{Element}
use Rattle.kmn_base.specs.declared.items.Item.{Item}
use Rattle.kmn_base.specs.declared.items.Item.TheVariants as item
use Rattle.kmn_base.specs.Names.{same_name}
use Rattle.virtual_keys.specs.Fits.{char_of_press}
use Rattle.virtual_keys.specs.Keys.{us_characters}
use Rattle.rule_model.specs.declared.event_state.EventState.{EventState}
use Rattle.rule_model.specs.Keyboard.{StoreMeaning}
use Rattle.rule_model.specs.System.{system_options}
use Rattle.rule_model.specs.Plain.{option_names}
use Rattle.rule_model.specs.Act.{content_now, one_more}
use Rattle.rule_model.specs.Choose.{Chosen}
use Rattle.rule_model.specs.Enter.{by_default, do_group, enter_group}
use Rattle.rule_model.specs.Event.{State, event_of, happening, happening_of}
use Rattle.rule_model.specs.KeyEvent.{after_key, begin_event}
use Rattle.rule_model.specs.Trace.{Steps, none_saved, steps_from, step_then, trace, trace_of}
use Rattle.load_maker.specs.Keyboards.{load_rule, load_group, load_keyboard, press_a, press_space, presses}
use Rattle.load_maker.specs.Plays.{Plays, LoadsPlay}
use Rattle.load_maker.proofs.LoadRules.{left_after, caught_after, chosen_after, space_unmatched}

-- the values of the system options, which no rule sets or saves
abbrev values : List (List Element)
values = map (λ (store : StoreMeaning). store.elements) system_options

abbrev saves : List (Option (List Element))
saves = map none_saved system_options

-- what a press leaves that puts one item
abbrev one_put : List Item → EventState
one_put left = record { left = left; current = values; saved = saves; pass = false; stopped = false; beeps = 0; entered = 1; put = 1; saves = 0 }

-- in the group, before anything was done
abbrev entered_on : List Item → EventState
entered_on left = record { left = left; current = values; saved = saves; pass = false; stopped = false; beeps = 0; entered = 1; put = 0; saves = 0 }

abbrev done_in : ℕ → List Item → Option Chosen → EventState
done_in n left chosen = do_group (load_keyboard n) (enter_group 49 (load_keyboard n) press_a) press_a (load_group n) chosen (entered_on left)

rule_acts : (n i : ℕ) → done_in n (left_after i) (Some (load_rule i, caught_after i)) ≡ one_put (left_after (suc i))
rule_acts n zero = refl
rule_acts n (suc i) = refl

pressed_a : (n i : ℕ) → i ≤ n → after_key (load_keyboard n) press_a (begin_event (left_after i) values saves) ≡ one_put (left_after (suc i))
unfolding after_key same_name
pressed_a n i within =
    ap (done_in n (left_after i)) (chosen_after (content_now (load_keyboard n) (entered_on (left_after i))) n i within) ∙ rule_acts n i

-- K_SPACE puts its character
abbrev left_at_end : ℕ → List Item
left_at_end i = item.Char (0x4E00 + i) ∷ item.Char 32 ∷ []

abbrev spaced_in : ℕ → List Item → Option Chosen → EventState
spaced_in n left chosen = do_group (load_keyboard n) (enter_group 49 (load_keyboard n) press_space) press_space (load_group n) chosen (entered_on left)

default_acts : (n i : ℕ) → spaced_in n (left_after (suc i)) None ≡ one_put (left_at_end i)
unfolding by_default char_of_press us_characters
default_acts n i = refl

pressed_space : (n i : ℕ) → after_key (load_keyboard n) press_space (begin_event (left_after (suc i)) values saves) ≡ one_put (left_at_end i)
unfolding after_key same_name
pressed_space n i =
    ap (spaced_in n (left_after (suc i))) (space_unmatched (content_now (load_keyboard n) (entered_on (left_after (suc i)))) (suc i) 0 (suc n)) ∙ default_acts n i

-- the state with a text before the caret
abbrev state_of : List Item → State
state_of left = record { left = left; right = []; names = option_names system_options; current = values; saved = saves }

a_happens : (n i : ℕ) → i ≤ n → event_of (load_keyboard n) (state_of (left_after i)) (event.Key press_a) ≡ Ok (happening_of press_a (one_put (left_after (suc i))) (state_of (left_after i)))
unfolding happening
a_happens n zero within = ap (λ (s : EventState). Ok (happening_of press_a s (state_of (left_after zero)))) (pressed_a n zero within)
a_happens n (suc i) within = ap (λ (s : EventState). Ok (happening_of press_a s (state_of (left_after (suc i))))) (pressed_a n (suc i) within)

space_happens : (n i : ℕ) → event_of (load_keyboard n) (state_of (left_after (suc i))) (event.Key press_space) ≡ Ok (happening_of press_space (one_put (left_at_end i)) (state_of (left_after (suc i))))
unfolding happening
space_happens n i = ap (λ (s : EventState). Ok (happening_of press_space s (state_of (left_after (suc i))))) (pressed_space n i)

module _ (n : ℕ) where
  abbrev steps : ℕ → ℕ → ℕ → Steps
  steps number i count = steps_from (load_keyboard n) number (presses count) (state_of (left_after i))

  abbrev PlaysFrom : ℕ → ℕ → Steps → Type 0
  PlaysFrom i count done = Plays (count + 1) (trace_of (state_of (left_after i)) done)

  last_plays : (number i : ℕ) → PlaysFrom (suc i) 0 (steps number (suc i) 0)
  last_plays number i =
      let is : steps number (suc i) 0 ≡ step_then number (steps_from (load_keyboard n) (one_more number) []) (Ok (happening_of press_space (one_put (left_at_end i)) (state_of (left_after (suc i))))) =
      ap (step_then number (steps_from (load_keyboard n) (one_more number) [])) (space_happens n i) in
      subst (λ (done : Steps). PlaysFrom (suc i) 0 done) (sym is) (record { refused = refl; steps = refl; put = refl; text = refl })

  plays_on : (number i count : ℕ) → i + count ≡ suc n → PlaysFrom i count (steps number i count)
  plays_on number zero zero all = absurd (omega arith)
  plays_on number (suc i) zero all = last_plays number i
  plays_on number i (suc count) all =
      let is : steps number i (suc count) ≡ step_then number (steps_from (load_keyboard n) (one_more number) (presses count)) (Ok (happening_of press_a (one_put (left_after (suc i))) (state_of (left_after i)))) =
      ap (step_then number (steps_from (load_keyboard n) (one_more number) (presses count))) (a_happens n i (omega arith)) in
      let rest : PlaysFrom (suc i) count (steps (one_more number) (suc i) count) = plays_on (one_more number) (suc i) count (omega arith) in
      subst (λ (done : Steps). PlaysFrom i (suc count) done) (sym is) (record { refused = rest.refused; steps = omega (arith, rest.steps); put = omega (arith, rest.put); text = rest.text })

-- the script of each load plays so on its keyboard
pub loads_play : LoadsPlay
unfolding trace
loads_play n = let count : n + 2 ≡ suc n + 1 = omega arith in
    rw count (plays_on n 1 0 (suc n) (omega arith))

-- A session after its touch keyboard shows a layer: the state is set, and the text is unchanged.
use Rattle.std.proofs.Common.{◌≡◌, ℕ, List, Option, Some, None, map, position, refl}
use Rattle.kmn_base.specs.declared.events.Event.TheVariants as event
use Rattle.kmn_base.specs.declared.items.Element.{Element}
use Rattle.kmn_base.specs.declared.items.Element.TheVariants as element
use Rattle.rule_model.specs.Event.{State, happening, has_name, set_option, setting_event, whole_text}
use Rattle.play_session.specs.Session.{SessionState, after_step}

-- an option that is set does not change the text
same_text : (option : Option ℕ) (value : List Element) (state : State) → whole_text (set_option option value state) ≡ whole_text state
same_text None value state = refl
same_text (Some option) value state = refl

pub setting_keeps_text : (name value : List ℕ) (state : State) → whole_text (setting_event name value state) ≡ whole_text state
setting_keeps_text name value state = same_text (position (has_name name) state.names) (map element.Char value) state

-- the state after a setting
pub after_setting : (session : SessionState) (name value : List ℕ) → (after_step session (event.Setting name value)).state ≡ setting_event name value session.state
unfolding happening
after_setting session name value = refl

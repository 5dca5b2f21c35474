-- The effect of a key press on the left list and on the option values, and the edit that it makes.
use Rattle.std.specs.Prelude.{ℕ, ◌-◌, false, nat_eq, List, drop, length, Option}
use Rattle.std.specs.List.{common_prefix_len}
use Rattle.kmn_base.specs.declared.items.Item.{Item}
use Rattle.kmn_base.specs.declared.items.Element.{Element}
use Rattle.kmn_base.specs.declared.events.Outcome.{Outcome}
use Rattle.kmn_base.specs.declared.keys.KeyPress.{KeyPress}
use Rattle.kmn_base.specs.declared.limits.TheConstants.{EVENT_ENTRIES}
use Rattle.kmn_base.specs.Lists.{characters}
use Rattle.rule_model.specs.declared.event_state.EventState.{EventState}
use Rattle.rule_model.specs.Keyboard.{Keyboard}
use Rattle.rule_model.specs.Enter.{enter_group}

-- the state at the beginning of an event with this list and these values
abbrev pub begin_event : List Item → List (List Element) → List (Option (List Element)) → EventState
begin_event left current saved =
    record { left = left; current = current; saved = saved; pass = false; stopped = false; beeps = 0; entered = 0; put = 0; saves = 0 }

-- the state that a press leaves: the start group is entered, and at most as many groups as an event may enter
unfoldable pub after_key : Keyboard → KeyPress → EventState → EventState
after_key kb press s = enter_group EVENT_ENTRIES kb press kb.start s

-- the number of characters of the common prefix of two texts
abbrev pub common_prefix : List ℕ → List ℕ → ℕ
common_prefix old new = common_prefix_len nat_eq old new

-- the number of characters that the edit deletes at the end of the old text, and the text that it inserts there
abbrev pub deleted : List Item → List Item → ℕ
deleted old new = length (characters old) - common_prefix (characters old) (characters new)

abbrev pub inserted : List Item → List Item → List ℕ
inserted old new = drop (common_prefix (characters old) (characters new)) (characters new)

-- the outcome of a press, from the list before it and the state that it leaves
abbrev pub outcome_of : List Item → EventState → Outcome
outcome_of old s =
    record { delete = deleted old s.left; pass = s.pass; beeps = s.beeps; entered = s.entered; put = s.put; saved = s.saves }

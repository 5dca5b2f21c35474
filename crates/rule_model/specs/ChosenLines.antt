-- The lines of the rules that a press selects, in the order in which their groups are entered.
use Rattle.std.specs.Prelude.{ℕ, zero, suc, ◌+◌, nat_le, if◌then◌else◌, List, [], ◌∷◌, ◌++◌, length, Option, Some, None}
use Rattle.kmn_base.specs.declared.keys.KeyPress.{KeyPress}
use Rattle.kmn_base.specs.declared.limits.TheConstants.{EVENT_ENTRIES}
use Rattle.kmn_base.specs.declared.events.Event.{Event}
use Rattle.kmn_base.specs.declared.events.Event.TheVariants as event
use Rattle.kmn_base.specs.Lists.{without_last}
use Rattle.rule_model.specs.declared.event_state.Caught.{Caught}
use Rattle.rule_model.specs.declared.event_state.EventState.{EventState}
use Rattle.rule_model.specs.Keyboard.{Ref, Output, UseGroup, GroupMeaning, Keyboard}
use Rattle.rule_model.specs.Content.{group_at}
use Rattle.rule_model.specs.Choose.{Chosen}
use Rattle.rule_model.specs.Act.{items_caught, act_one, act}
use Rattle.rule_model.specs.KeyEvent.{begin_event}
use Rattle.rule_model.specs.Event.{State}
use Rattle.rule_model.specs.Enter.{nothing, chosen_in, enter_group}

-- appends to lines the lines that entering a group in a state adds
abbrev pub Adding : Type 0
Adding = Ref → EventState → List ℕ → List ℕ

-- the lines with those that one item of an output adds: only entering a group adds lines
abbrev pub lines_of_one : Adding → Output → EventState → List ℕ → List ℕ
lines_of_one adding (UseGroup group) s lines = if nat_le EVENT_ENTRIES s.entered then lines else adding group s lines
lines_of_one adding output s lines = lines

-- the lines with those that the items of an output add, each in the state in which it acts; once the event is stopped, no lines are added
abbrev pub lines_of : Keyboard → (Ref → EventState → EventState) → Adding → Caught → List Output → EventState → List ℕ → List ℕ
lines_of kb enter adding caught [] s lines = lines
lines_of kb enter adding caught (output ∷ outputs) s lines =
    lines_of kb enter adding caught outputs (if s.stopped then s else act_one kb enter caught output s)
    (if s.stopped then lines else lines_of_one adding output s lines)

-- the lines with those of an output that may be absent
abbrev pub lines_if_any : Keyboard → (Ref → EventState → EventState) → Adding → Option (List Output) → EventState → List ℕ → List ℕ
lines_if_any kb enter adding None s lines = lines
lines_if_any kb enter adding (Some outputs) s lines = lines_of kb enter adding nothing outputs s lines

-- removes the items that a selected rule matched
abbrev pub taken_by : Chosen → EventState → EventState
taken_by chosen s = record s { left = without_last (length (items_caught chosen.1)) s.left }

-- a selected rule adds its own line, then the lines of its output, then those of the group's match output
abbrev pub lines_of_group : Keyboard → (Ref → EventState → EventState) → Adding → GroupMeaning → Option Chosen → EventState → List ℕ → List ℕ
lines_of_group kb enter adding group None s lines = lines_if_any kb enter adding group.on_nomatch s lines
lines_of_group kb enter adding group (Some chosen) s lines =
    lines_if_any kb enter adding group.on_match (act kb enter chosen.1 chosen.0.output (taken_by chosen s))
    (lines_of kb enter adding chosen.1 chosen.0.output (taken_by chosen s) (lines ++ chosen.0.line ∷ []))

abbrev pub lines_in_group : Keyboard → (Ref → EventState → EventState) → Adding → KeyPress → Option GroupMeaning → EventState → List ℕ → List ℕ
lines_in_group kb enter adding press None s lines = lines
lines_in_group kb enter adding press (Some group) s lines = lines_of_group kb enter adding group (chosen_in kb press group s) s lines

-- the lines with those that entering a group adds, if at most `depth` more nested entries are allowed
abbrev pub add_lines : ℕ → Keyboard → KeyPress → Ref → EventState → List ℕ → List ℕ
add_lines zero kb press group s lines = lines
add_lines (suc depth) kb press group s lines =
    lines_in_group kb (enter_group depth kb press) (add_lines depth kb press) press (group_at kb.groups group)
    (record s { entered = s.entered + 1 }) lines

-- the lines of a press
unfoldable pub lines_of_press : Keyboard → KeyPress → EventState → List ℕ
lines_of_press kb press s = add_lines EVENT_ENTRIES kb press kb.start s []

-- the lines of the rules that an event selects, one for each entry at which a rule is selected, in the order of entry; an event that is
-- not a key press selects no rule
abbrev pub chosen : Keyboard → State → Event → List ℕ
chosen kb state (event.Key press) = lines_of_press kb press (begin_event state.left state.current state.saved)
chosen kb state event = []

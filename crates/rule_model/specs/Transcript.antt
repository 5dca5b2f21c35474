-- The printed lines of a trace: a line for each event, the values that it changed, and the end.
use Rattle.std.specs.Prelude.{ℕ, ◌+◌, Bool, true, false, if◌then◌else◌, List, [], ◌∷◌, ◌++◌, map, codes, Option, Some, None}
use Rattle.std.specs.List.{concat}
use Rattle.std.specs.Fmt.{decimal}
use Rattle.std.specs.Str.{bytes_eq}
use Rattle.kmn_base.specs.CodeTexts.{code_text}
use Rattle.kmn_base.specs.Lists.{characters, window}
use Rattle.kmn_base.specs.declared.codes.Code.{Code}
use Rattle.kmn_base.specs.declared.events.Event.{Event}
use Rattle.kmn_base.specs.declared.items.Element.{Element}
use Rattle.kmn_base.specs.declared.items.Element.TheVariants as element
use Rattle.rule_model.specs.declared.script.Entry.{Entry}
use Rattle.rule_model.specs.declared.script.Entry.TheVariants.{Act, Expect}
use Rattle.rule_model.specs.Keyboard.{Keyboard}
use Rattle.rule_model.specs.Lines.{hexadecimal, joined, event_line, text_line, end_line}
use Rattle.rule_model.specs.Match.{same_value}
use Rattle.rule_model.specs.Event.{State, whole_text}
use Rattle.rule_model.specs.Trace.{Step, Trace, trace}

-- an element as printed: a character, `d` and the number of a mark, `k` and the code of a key
abbrev pub element_text : Element → List ℕ
element_text (element.Char c) = hexadecimal c
element_text (element.Mark mark) = codes "d" ++ decimal mark
element_text (element.Key flags code) = codes "k" ++ hexadecimal code

-- the line of a new current or saved value of an option
abbrev pub value_line : Bool → List ℕ → List Element → List ℕ
value_line saved name value =
    concat ((if saved then codes "save " else codes "opt ") ∷ name ∷ codes " " ∷ joined (map element_text value) ∷ codes "\n" ∷ [])

-- the line of a text that is not the expected one
abbrev pub expect_line : ℕ → List ℕ
expect_line line = concat (codes "expect failed line=" ∷ decimal line ∷ codes "\n" ∷ [])

-- the line of a refused event
abbrev pub refused_event_line : ℕ → Code → List ℕ
refused_event_line number code = concat (codes "refused " ∷ code_text code ∷ codes " event " ∷ decimal number ∷ codes "\n" ∷ [])

-- a line for a current value that changed, and a line for a saved value that changed; each line begins with `front`
abbrev pub current_change : (front : List ℕ) → List ℕ → List Element → List Element → List ℕ
current_change front name before after = if same_value before after then [] else front ++ value_line false name after

abbrev pub saved_change : (front : List ℕ) → List ℕ → Option (List Element) → Option (List Element) → List ℕ
saved_change front name before None = []
saved_change front name None (Some after) = front ++ value_line true name after
saved_change front name (Some before) (Some after) = if same_value before after then [] else front ++ value_line true name after

-- the lines of the changes from one list of values to another, option by option, the current value before the saved one
abbrev pub changes : (front : List ℕ) → List (List ℕ) → List (List Element) → List (Option (List Element)) → List (List Element) → List (Option (List Element)) → List ℕ
changes front (name ∷ names) (value ∷ values) (saved ∷ saves) (value_after ∷ values_after) (saved_after ∷ saves_after) =
    current_change front name value value_after ++ (saved_change front name saved saved_after ++ changes front names values saves values_after saves_after)
changes front names values saves values_after saves_after = []

-- the lines of a step, each beginning with `front`: the effect of the event, the last 64 items before the caret, and the values that it
-- changed
abbrev pub step_lines : (front : List ℕ) → State → Step → List ℕ
step_lines front before step =
    (front ++ event_line step.number step.happened.outcome step.happened.inserted (window step.happened.after.left))
    ++ changes front before.names before.current before.saved step.happened.after.current step.happened.after.saved

-- the line of the refusal that ended a trace
abbrev pub refused_lines : Option (ℕ × Code) → List ℕ
refused_lines None = []
refused_lines (Some refused) = refused_event_line refused.0 refused.1

-- the lines of a script's entries with the steps of their events, after `events` events and `failed` failed expectations
abbrev pub lines_from : ℕ → ℕ → State → List Entry → List Step → Option (ℕ × Code) → List ℕ
lines_from events failed state [] steps refused = text_line (characters state.left) state.right ++ end_line events failed
lines_from events failed state (Expect line text ∷ entries) steps refused =
    if bytes_eq (whole_text state) text then lines_from events failed state entries steps refused
    else (expect_line line ++ lines_from events (failed + 1) state entries steps refused)
lines_from events failed state (Act line event ∷ entries) [] refused = refused_lines refused
lines_from events failed state (Act line event ∷ entries) (step ∷ steps) refused =
    step_lines [] state step ++ lines_from (events + 1) failed step.happened.after entries steps refused

-- the events of a script's entries
abbrev pub events_of : List Entry → List Event
events_of [] = []
events_of (Act line event ∷ entries) = event ∷ events_of entries
events_of (Expect line text ∷ entries) = events_of entries

-- the transcript of a trace for a script
abbrev pub transcript_of : Trace → List Entry → List ℕ
transcript_of traced entries = lines_from 0 0 traced.first entries traced.done traced.refused

-- the transcript of a keyboard for a script
unfoldable pub transcript : Keyboard → List Entry → List ℕ
transcript kb entries = transcript_of (trace kb (events_of entries)) entries

-- The printed text of a traced script: the lines of the rules that each event chose, and how often each line was chosen.
use Rattle.std.specs.Prelude.{ℕ, ◌+◌, Bool, nat_eq, if◌then◌else◌, List, [], ◌∷◌, ◌++◌, map, filter, flat_map, codes, Option}
use Rattle.std.specs.List.{concat}
use Rattle.std.specs.Fmt.{decimal}
use Rattle.kmn_base.specs.declared.codes.Code.{Code}
use Rattle.kmn_base.specs.declared.events.Event.{Event}
use Rattle.rule_model.specs.declared.script.Entry.{Entry}
use Rattle.rule_model.specs.ChosenLines.{chosen}
use Rattle.rule_model.specs.Event.{State}
use Rattle.rule_model.specs.Keyboard.{Keyboard}
use Rattle.rule_model.specs.Lines.{joined}
use Rattle.rule_model.specs.Trace.{Step, Trace, trace}
use Rattle.rule_model.specs.Transcript.{refused_lines, events_of}
use Rattle.rule_trace.specs.declared.coverage.Hit.{Hit}
use Rattle.rule_trace.specs.Coverage.{with_lines, hit_lines, not_chosen}

-- numbers joined by dots, or `-` if there are no numbers
abbrev pub numbers_text : List ℕ → List ℕ
numbers_text numbers = joined (map decimal numbers)

-- the line of an event that was done, with the lines of the rules that it chose
abbrev pub fired_line : ℕ → List ℕ → List ℕ
fired_line number lines = concat (decimal number ∷ codes " fired " ∷ numbers_text lines ∷ codes "\n" ∷ [])

-- the line of a hit: a line, and how often it was chosen
abbrev pub hit_line : Hit → List ℕ
hit_line hit = concat (codes "hit " ∷ decimal hit.line ∷ codes "=" ∷ decimal hit.count ∷ codes "\n" ∷ [])

-- whether the line of a hit was never chosen
abbrev pub is_never : Hit → Bool
is_never hit = nat_eq hit.count 0

-- the line of a hit, if its line was chosen
abbrev pub hit_if_any : Hit → List ℕ
hit_if_any hit = if is_never hit then [] else hit_line hit

-- the lines that were never chosen
abbrev pub never_chosen : List Hit → List ℕ
never_chosen hits = hit_lines (filter is_never hits)

-- the printed line that lists the lines that were never chosen
unfoldable pub never_line : List Hit → List ℕ
never_line hits = concat (codes "never " ∷ numbers_text (never_chosen hits) ∷ codes "\n" ∷ [])

-- the line of the number of events that were done
unfoldable pub events_line : ℕ → List ℕ
events_line events = concat (codes "end events=" ∷ decimal events ∷ codes "\n" ∷ [])

-- the text that is printed at the end of a script
unfoldable pub hits_text : ℕ → List Hit → List ℕ
hits_text events hits = flat_map hit_if_any hits ++ (never_line hits ++ events_line events)

-- the printed text of events along their steps from a state on, given the number of events before them, the hits before them, and
-- the lines that an event chooses in a state
abbrev pub fired_from : (State → Event → List ℕ) → ℕ → List Hit → State → List Event → List Step → Option (ℕ × Code) → List ℕ
fired_from chooses count hits state [] steps refused = hits_text count hits
fired_from chooses count hits state (event ∷ events) [] refused = refused_lines refused
fired_from chooses count hits state (event ∷ events) (step ∷ steps) refused =
    fired_line step.number (chooses state event)
    ++ fired_from chooses (count + 1) (with_lines (chooses state event) hits) step.happened.after events steps refused

-- the printed text of a trace of events that counts these lines
abbrev pub trace_text_of : (State → Event → List ℕ) → Trace → List ℕ → List Event → List ℕ
trace_text_of chooses traced lines events = fired_from chooses 0 (map not_chosen lines) traced.first events traced.done traced.refused

-- the text that a keyboard prints for a traced script; expected texts have no effect
unfoldable pub trace_text : Keyboard → List ℕ → List Entry → List ℕ
trace_text kb lines entries = trace_text_of (chosen kb) (trace kb (events_of entries)) lines (events_of entries)

-- The drawing of a keyboard after a script, or why there is none.
use Rattle.std.specs.Prelude.{◌≡◌, ℕ, nat_eq, nat_lt, if◌then◌else◌, List, [], ◌∷◌, ◌++◌, length, map, codes, Option, Some, None, Result, Ok, Err}
use Rattle.std.specs.List.{concat}
use Rattle.std.specs.Fmt.{decimal}
use Rattle.kmn_base.specs.Answers.{and_then}
use Rattle.kmn_base.specs.Texts.{decoded}
use Rattle.kmn_base.specs.declared.codes.Code.{Code}
use Rattle.kmn_base.specs.declared.codes.Code.TheVariants.{E2}
use Rattle.kmn_base.specs.declared.events.Event.{Event}
use Rattle.kmn_base.specs.declared.limits.TheConstants.{TEXT_CHARS_AT_KEY}
use Rattle.rule_model.specs.Act.{one_more}
use Rattle.rule_model.specs.Event.{State, Happening, event_of, whole_text}
use Rattle.rule_model.specs.Keyboard.{Keyboard}
use Rattle.rule_model.specs.Tab.{tab}
use Rattle.rule_model.specs.Trace.{first_state}
use Rattle.rule_model.specs.Transcript.{events_of}
use Rattle.rule_model.specs.declared.script.Entry.{Entry}
use Rattle.rule_model.specs.declared.tables.Tables.{Tables}
use Rattle.keyman_words.specs.declared.reason.Reason.{Reason}
use Rattle.keyman_words.specs.declared.reason.Reason.TheVariants as reason
use Rattle.keyman_run.specs.declared.preparing.Stop.{Stop}
use Rattle.keyman_run.specs.declared.preparing.Stop.TheVariants as stop
use Rattle.play_session.specs.Session.{SessionState}
use Rattle.chart_cells.specs.Layers.{chart_of}
use Rattle.chart_cells.specs.Taps.{layer_taps}
use Rattle.touch_board.specs.declared.layers.TouchLayer.{TouchLayer}
use Rattle.chart_drawing.specs.Picture.{picture}

-- a state in which a key may be pressed as the event of this number: in a longer text, the press would be refused
abbrev pub with_room : ℕ → State → Result State Reason
with_room number state = if nat_lt TEXT_CHARS_AT_KEY (length (whole_text state)) then Err (reason.Event number E2) else Ok state

-- the result after an event: the result of the rest of the script from the state that the event leaves, or the refusal of the event
abbrev pub after_event : ℕ → (State → Result State Reason) → Result Happening Code → Result State Reason
after_event number rest (Ok happened) = rest happened.after
after_event number rest (Err code) = Err (reason.Event number code)

-- the state after events, the first of which has this number, if none is refused and a key may be pressed after them
abbrev pub state_after : Keyboard → ℕ → List Event → State → Result State Reason
state_after kb number [] state = with_room number state
state_after kb number (event ∷ events) state = after_event number (state_after kb (one_more number) events) (event_of kb state event)

-- the state after the remaining entries of a script from a session on
abbrev pub state_left : SessionState → List Entry → Result State Reason
state_left session entries = state_after (tab session.tables) (one_more session.number) (events_of entries) session.state

-- what is left after entries is the rest of the play, or the reason for which it stops
abbrev pub Leads : {A : Type 0} → Result State Reason → Result State Reason → Result A Stop → Type 0
Leads whole rest (Ok value) = whole ≡ rest
Leads whole rest (Err (stop.Refused why)) = whole ≡ Err why
Leads whole rest (Err stop.ReadFault) = ⊥
Leads whole rest (Err stop.Memory) = Unit {0}

-- the state of the keyboard of tables after the entries of a script
abbrev pub script_state : Tables → List Entry → Result State Reason
script_state tables entries = state_after (tab tables) 1 (events_of entries) (first_state (tab tables))

-- the picture of a state: its chart, and the layers of a touch layout with what tapping their keys does
abbrev pub picture_in : (title : List ℕ) → List TouchLayer → Tables → State → List ℕ
picture_in title layers tables state = picture (chart_of title tables state) layers (map (layer_taps tables state) layers)

-- the text of the drawing: the picture of the state after a script
unfoldable pub drawing : (title : List ℕ) → List TouchLayer → Tables → List Entry → Result (List ℕ) Reason
drawing title layers tables entries = and_then (script_state tables entries) (λ state. Ok (picture_in title layers tables state))

-- the bytes of a path after its last slash, if these bytes are before it
abbrev pub name_from : List ℕ → List ℕ → List ℕ
name_from name [] = name
name_from name (c ∷ path) = name_from (if nat_eq c 47 then [] else (name ++ c ∷ [])) path

-- the names of the keyboard's file and of the script without their folders
unfoldable pub title_bytes : List ℕ → Option (List ℕ) → List ℕ
title_bytes file None = name_from [] file
title_bytes file (Some keys) = name_from [] file ++ codes " after " ++ name_from [] keys

-- the title of a drawing: these names as characters, or no title if they are not UTF-8
unfoldable pub title_of : List ℕ → Option (List ℕ) → List ℕ
title_of file keys = decoded (title_bytes file keys)

-- the line of a drawing: its size
unfoldable pub drawn_line : ℕ → List ℕ
drawn_line size = concat (codes "drawn bytes=" ∷ decimal size ∷ codes "\n" ∷ [])

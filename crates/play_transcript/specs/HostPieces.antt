-- The printed text of a script for several fields, piece by piece, with the steps that the pieces report.
use Rattle.std.specs.Prelude.{◌≡◌, ℕ, nat_eq, if◌then◌else◌, List, [], ◌∷◌, ◌++◌, Option, Some, None}
use Rattle.std.specs.List.{filter_map, flat_map}
use Rattle.kmn_base.specs.declared.codes.Code.{Code}
use Rattle.kmn_base.specs.declared.events.Event.{Event}
use Rattle.rule_model.specs.declared.tables.Tables.{Tables}
use Rattle.rule_model.specs.Act.{one_more}
use Rattle.rule_model.specs.Event.{State}
use Rattle.rule_model.specs.Trace.{Step}
use Rattle.rule_model.specs.Transcript.{step_lines, refused_event_line}
use Rattle.play_session.specs.Session.{SessionState}
use Rattle.text_host.specs.declared.entries.HostEntry.{HostEntry}
use Rattle.text_host.specs.declared.entries.HostEntry.TheVariants.{Act}
use Rattle.play_transcript.specs.declared.host_playing.Play.{Play}
use Rattle.play_transcript.specs.HostCalls.{steps_of}
use Rattle.play_transcript.specs.HostText.{front, step_in, entry_lines, end_lines, host_text}
use Rattle.play_transcript.specs.HostPlaying.{first_play, turned_to, refusal_in, entry_refusal, after_entry, rest_unless}

-- the lines of a step of a field that had this state before the step, or lines that report no step
pub data HostPiece : Type 0 where
  StepLines : ℕ → State → Step → HostPiece
  OtherLines : List ℕ → HostPiece

-- the printed text of a piece
abbrev pub piece_text : HostPiece → List ℕ
piece_text (StepLines field before step) = step_lines (front field) before step
piece_text (OtherLines text) = text

-- the step of a field that a piece reports, if it reports one
abbrev pub step_told : ℕ → HostPiece → Option Step
step_told field (StepLines other before step) = if nat_eq other field then Some step else None
step_told field (OtherLines text) = None

-- the pieces of an event, by its refusal and the session of its field
abbrev pub event_pieces : Play → Event → Option Code → Option SessionState → List HostPiece
event_pieces play event (Some code) there = OtherLines (refused_event_line (one_more play.asked) code) ∷ []
event_pieces play event None None = []
event_pieces play event None (Some session) = StepLines play.field session.state (step_in session event) ∷ []

-- the pieces of an entry: the pieces of an event, or one piece without a step
abbrev pub entry_pieces : Play → HostEntry → List HostPiece
entry_pieces play (Act line event) = event_pieces play event (refusal_in (turned_to play) event) (turned_to play)
entry_pieces play other = OtherLines (entry_lines play other) ∷ []

-- the pieces that remain to be printed for a play
abbrev pub pieces_left : Play → List HostEntry → List HostPiece
pieces_left play [] = OtherLines (end_lines play) ∷ []
pieces_left play (entry ∷ entries) = entry_pieces play entry ++ rest_unless (entry_refusal play entry) (pieces_left (after_entry play entry) entries)

-- the printed text is the text of these pieces, and the steps of each field are the steps that they report for it, in order
pub record AreTold (tables : Tables) (entries : List HostEntry) (pieces : List HostPiece) : Type 0 where
  pub text : host_text tables entries ≡ flat_map piece_text pieces
  pub steps : (field : ℕ) → steps_of field tables entries ≡ filter_map (step_told field) pieces

-- this is true for the pieces of a play
abbrev pub StepsAreTold : Tables → List HostEntry → Type 0
StepsAreTold tables entries = AreTold tables entries (pieces_left (first_play tables) entries)

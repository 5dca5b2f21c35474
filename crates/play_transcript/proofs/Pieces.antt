-- The printed text of a play is the text of its pieces, and the steps of a field are the steps that they report.
use Rattle.std.proofs.Common.{◌≡◌, ℕ, Bool, true, false, List, [], ◌∷◌, ◌++◌, Option, Some, None, refl, sym, ap, ◌∙◌, append-nil}
use Rattle.std.specs.Prelude.{nat_eq, if◌then◌else◌}
use Rattle.std.specs.List.{cons_option, filter_map, flat_map}
use Rattle.std.proofs.lemmas.List.Concat.{flat_map-append}
use Rattle.kmn_base.specs.declared.codes.Code.{Code}
use Rattle.kmn_base.specs.declared.events.Event.{Event}
use Rattle.kmn_base.specs.declared.events.Event.TheVariants as event
use Rattle.rule_model.specs.declared.tables.Tables.{Tables}
use Rattle.rule_model.specs.Act.{one_more}
use Rattle.rule_model.specs.Trace.{Step}
use Rattle.play_session.specs.Session.{SessionState}
use Rattle.text_host.specs.declared.entries.HostEntry.{HostEntry}
use Rattle.text_host.specs.declared.entries.HostEntry.TheVariants.{Open, Field, Preview, Act, Expect}
use Rattle.play_transcript.specs.declared.host_playing.Play.{Play}
use Rattle.play_transcript.specs.HostCalls.{event_steps, entry_steps, steps_left}
use Rattle.play_transcript.specs.HostText.{step_in, event_text, text_or_refusal, entry_lines, end_lines, lines_left, host_text}
use Rattle.play_transcript.specs.HostPieces.{HostPiece, piece_text, step_told, event_pieces, entry_pieces, pieces_left, StepsAreTold}
use Rattle.play_transcript.specs.HostPlaying.{first_play, turned_to, refusal_in, entry_refusal, after_entry, rest_unless}

-- ---- the text

event_told : (play : Play) (event : Event) (refused : Option Code) (there : Option SessionState)
    → flat_map piece_text (event_pieces play event refused there) ≡ text_or_refusal refused (one_more play.asked) (event_text play.field event there)
event_told play event (Some code) there = append-nil _
event_told play event None None = refl
event_told play event None (Some session) = append-nil _

entry_told : (play : Play) (entry : HostEntry) → flat_map piece_text (entry_pieces play entry) ≡ entry_lines play entry
entry_told play (Act line event) = event_told play event (refusal_in (turned_to play) event) (turned_to play)
entry_told play (Open line) = refl
entry_told play (Field line field) = refl
entry_told play (Preview line press) = append-nil _
entry_told play (Expect line text) = append-nil _

rest_told : (refused : Option Code) (pieces : List HostPiece) (lines : List ℕ) → flat_map piece_text pieces ≡ lines
    → flat_map piece_text (rest_unless refused pieces) ≡ rest_unless refused lines
rest_told None pieces lines is = is
rest_told (Some code) pieces lines is = refl

text_told : (play : Play) (entries : List HostEntry) → flat_map piece_text (pieces_left play entries) ≡ lines_left play entries
text_told play [] = append-nil (end_lines play)
text_told play (entry ∷ entries) =
    let rest : List HostPiece = pieces_left (after_entry play entry) entries in
    flat_map-append piece_text (entry_pieces play entry) (rest_unless (entry_refusal play entry) rest)
    ∙ (λ i. entry_told play entry i ++ rest_told (entry_refusal play entry) rest (lines_left (after_entry play entry) entries) (text_told (after_entry play entry) entries) i)

-- ---- the steps

module _ (field : ℕ) where
  rest_steps : (refused : Option Code) (pieces : List HostPiece) (steps : List Step) → filter_map (step_told field) pieces ≡ steps
      → filter_map (step_told field) (rest_unless refused pieces) ≡ rest_unless refused steps
  rest_steps None pieces steps is = is
  rest_steps (Some code) pieces steps is = refl

  one_step : (here : Bool) (step : Step) (rest steps : List Step) → rest ≡ steps
      → cons_option (if here then Some step else None) rest ≡ (if here then step ∷ [] else []) ++ steps
  one_step true step rest steps is = ap (λ more. step ∷ more) is
  one_step false step rest steps is = is

  no_step : (here : Bool) (steps : List Step) → steps ≡ (if here then [] else []) ++ steps
  no_step true steps = refl
  no_step false steps = refl

  event_steps_told : (play : Play) (event : Event) (refused : Option Code) (there : Option SessionState) (pieces : List HostPiece) (steps : List Step)
      → filter_map (step_told field) pieces ≡ steps
      → filter_map (step_told field) (event_pieces play event refused there ++ rest_unless refused pieces)
      ≡ rest_unless refused ((if nat_eq play.field field then event_steps event there else []) ++ steps)
  event_steps_told play event (Some code) there pieces steps is = refl
  event_steps_told play event None None pieces steps is = is ∙ no_step (nat_eq play.field field) steps
  event_steps_told play event None (Some session) pieces steps is =
      one_step (nat_eq play.field field) (step_in session event) (filter_map (step_told field) pieces) steps is

  entry_steps_told : (play : Play) (entry : HostEntry) (pieces : List HostPiece) (steps : List Step) → filter_map (step_told field) pieces ≡ steps
      → filter_map (step_told field) (entry_pieces play entry ++ rest_unless (entry_refusal play entry) pieces)
      ≡ rest_unless (entry_refusal play entry) (entry_steps field play entry ++ steps)
  entry_steps_told play (Act line event) pieces steps is = event_steps_told play event (refusal_in (turned_to play) event) (turned_to play) pieces steps is
  entry_steps_told play (Open line) pieces steps is = is
  entry_steps_told play (Field line other) pieces steps is = is
  entry_steps_told play (Preview line press) pieces steps is = rest_steps (refusal_in (turned_to play) (event.Key press)) pieces steps is
  entry_steps_told play (Expect line text) pieces steps is = is

  steps_told : (play : Play) (entries : List HostEntry) → filter_map (step_told field) (pieces_left play entries) ≡ steps_left field play entries
  steps_told play [] = refl
  steps_told play (entry ∷ entries) =
      entry_steps_told play entry (pieces_left (after_entry play entry) entries) (steps_left field (after_entry play entry) entries) (steps_told (after_entry play entry) entries)

pub steps_are_told : (tables : Tables) (entries : List HostEntry) → StepsAreTold tables entries
unfolding host_text
steps_are_told tables entries = record {
  text = sym (text_told (first_play tables) entries);
  steps = λ field. sym (steps_told field (first_play tables) entries);
}

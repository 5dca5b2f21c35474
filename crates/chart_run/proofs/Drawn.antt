-- The drawing after a script, and a run that reads the file, the script and the touch layout of a drawing.
use Rattle.std.proofs.Common.{◌≡◌, ℕ, ◌≤◌, List, length, Option, Some, None, Result, Ok, Err, sym, ap, ◌∙◌, subst}
use Rattle.std.specs.Result.{IsErrAnd}
use Rattle.kmn_base.specs.Answers.{and_then as result_then}
use Rattle.kmn_base.specs.declared.limits.TheConstants.{KEY_NAMES}
use Rattle.kmx_format.specs.Playable.{IsPlayable}
use Rattle.kmx_format.specs.TablesOf.{tables_of}
use Rattle.kmx_verifier.specs.FaultOf.{fault_of, IsRefusal}
use Rattle.kmx_verifier.specs.declared.faults.VerifyError.{VerifyError}
use Rattle.kmx_decompiler.proofs.Refusing.{few_keys}
use Rattle.rule_model.specs.Event.{State}
use Rattle.rule_model.specs.Tab.{tab}
use Rattle.rule_model.specs.declared.script.Entry.{Entry}
use Rattle.rule_model.specs.declared.tables.Tables.{Tables}
use Rattle.play_session.specs.Session.{SessionState, first_session}
use Rattle.touch_board.specs.declared.layers.TouchLayer.{TouchLayer}
use Rattle.keyman_words.specs.Seen.{FolderView}
use Rattle.keyman_words.specs.declared.reason.Reason.{Reason}
use Rattle.keyman_run.specs.Inputs.{tables_of_file, unless_faulty}
use Rattle.keyman_run.specs.Steps.{Gives, States, itself, verify_stop}
use Rattle.keyman_run.specs.Work.{given}
use Rattle.keyman_run.specs.declared.preparing.Stop.{Stop}
use Rattle.keyman_run.specs.declared.preparing.Stop.TheVariants as stop
use Rattle.keyman_run.proofs.RunLaws.{gives_as, gives_behind, gives_stopped}
use Rattle.keyman_run.proofs.TextLaws.{gives_stated, unread_states}
use Rattle.chart_run.specs.Drawings.{Leads, drawing, picture_in, script_state, state_left}
use Rattle.chart_run.specs.Orders.{bytes_drawing_work, entries_drawing_work, entries_work, layers_work, tables_drawing_work}

-- the key dictionary of a valid file is within its limit
pub names_few : (tables : Tables) → IsPlayable tables → length (tab tables).dictionary ≤ KEY_NAMES
unfolding tab
names_few tables h = few_keys tables h

-- the state after a script is that of a session before its first event
begun : (tables : Tables) (entries : List Entry) (session : SessionState) → session ≡ first_session tables → state_left session entries ≡ script_state tables entries
begun tables entries session is = ap (λ (s : SessionState). state_left s entries) is

module _ (title : List ℕ) (layers : List TouchLayer) (tables : Tables) (entries : List Entry) (session : SessionState) (is : session ≡ first_session tables) where
  -- if the script stops, there is no drawing
  pub drawing_stops : (A : Type 0) (rest : Result State Reason) (s : Stop) (result : Result (List ℕ) Stop) → IsErrAnd result (λ given. given ≡ s)
      → Leads {A = A} (state_left session entries) rest (Err s) → States itself (drawing title layers tables entries) result
  unfolding drawing
  drawing_stops A rest s (Ok value) given leads = absurd given
  drawing_stops A rest s (Err t) given leads = subst (λ (u : Stop). States {A = List ℕ} itself (drawing title layers tables entries) (Err u)) (sym given) (by_stop s leads)
    where
      by_stop : (u : Stop) → Leads {A = A} (state_left session entries) rest (Err u) → States {A = List ℕ} itself (drawing title layers tables entries) (Err u)
      by_stop (stop.Refused why) leads =
          ap (λ (end : Result State Reason). result_then end (λ state. Ok (picture_in title layers tables state))) (sym (begun tables entries session is) ∙ leads)
      by_stop stop.ReadFault leads = leads
      by_stop stop.Memory leads = tt

  -- the drawing is that of the session after the script
  pub drawing_made : (after : SessionState) (text : List ℕ) → state_left session entries ≡ Ok after.state → after.tables ≡ session.tables
      → text ≡ picture_in title layers after.tables after.state → drawing title layers tables entries ≡ Ok text
  unfolding drawing
  drawing_made after text left same made =
      ap (λ (end : Result State Reason). result_then end (λ state. Ok (picture_in title layers tables state))) (sym (begun tables entries session is) ∙ left)
      ∙ ap (λ (t : Tables). let read : Result (List ℕ) Reason = Ok (picture_in title layers t after.state) in read) (sym (same ∙ ap (λ (s : SessionState). s.tables) is))
      ∙ ap (λ (drawn_text : List ℕ). let read : Result (List ℕ) Reason = Ok drawn_text in read) (sym made)

-- if an allocation fails, this is a result of any drawing
pub drawing_unmade : (stated : Result (List ℕ) Reason) (result : Result (List ℕ) Stop) → IsErrAnd result (λ given. given ≡ stop.Memory) → States itself stated result
drawing_unmade stated (Ok value) given = absurd given
drawing_unmade stated (Err s) given = subst (λ (u : Stop). States {A = List ℕ} itself stated (Err u)) (sym given) tt

module _ {F : Type 0} (title : List ℕ) (keys layout : Option (List ℕ)) (tables : Tables) (folders : FolderView F) (folder middle after : F) where
  -- if reading the script stops, the drawing does
  pub script_stops : (s : Stop) → Gives {A = List Entry} itself (entries_work (tab tables).dictionary keys) folders folder after (Err s)
      → Gives {A = List ℕ} itself (tables_drawing_work title keys layout tables) folders folder after (Err s)
  script_stops s stopped =
      gives_stopped itself itself (entries_work (tab tables).dictionary keys) (entries_drawing_work title tables layout) folders folder after s stopped

  -- if the script is read and reading the layout stops, the drawing does
  pub layout_stops : (entries : List Entry) (s : Stop) → Gives itself (entries_work (tab tables).dictionary keys) folders folder middle (Ok entries)
      → Gives {A = List TouchLayer} itself (layers_work tables layout) folders middle after (Err s)
      → Gives {A = List ℕ} itself (tables_drawing_work title keys layout tables) folders folder after (Err s)
  layout_stops entries s read stopped =
      gives_behind itself itself (entries_work (tab tables).dictionary keys) (entries_drawing_work title tables layout) folders folder middle after entries (Err s) read
      (gives_stopped itself itself (layers_work tables layout) (λ layers. given (drawing title layers tables entries)) folders middle after s stopped)

  -- if both are read, the drawing after the script is the drawing of the tables
  pub draws_tables : (entries : List Entry) (layers : List TouchLayer) (result : Result (List ℕ) Stop)
      → Gives itself (entries_work (tab tables).dictionary keys) folders folder middle (Ok entries) → Gives itself (layers_work tables layout) folders middle after (Ok layers)
      → States itself (drawing title layers tables entries) result → Gives itself (tables_drawing_work title keys layout tables) folders folder after result
  draws_tables entries layers result read found states =
      gives_behind itself itself (entries_work (tab tables).dictionary keys) (entries_drawing_work title tables layout) folders folder middle after entries result read
      (gives_behind itself itself (layers_work tables layout) (λ layers. given (drawing title layers tables entries)) folders middle after after layers result found
      (gives_stated itself (drawing title layers tables entries) folders after result states))

-- if the opening of a file stops, its drawing does
pub unread_drawing : {F : Type 0} (title : List ℕ) (keys layout : Option (List ℕ)) (bytes : List ℕ) (error : VerifyError) (folders : FolderView F) (folder : F) → IsRefusal error (λ fault. fault_of bytes ≡ Some fault)
    → Gives {A = List ℕ} itself (bytes_drawing_work title keys layout bytes) folders folder folder (Err (verify_stop error))
unread_drawing title keys layout bytes error folders folder is =
    gives_stopped itself itself (given (tables_of_file bytes)) (tables_drawing_work title keys layout) folders folder folder (verify_stop error)
    (gives_stated itself (tables_of_file bytes) folders folder (Err (verify_stop error)) (unread_states itself bytes error is))

module _ {F : Type 0} (title : List ℕ) (keys layout : Option (List ℕ)) (bytes file : List ℕ) (folders : FolderView F) (folder after : F) (none : fault_of bytes ≡ None) (same : file ≡ bytes) where
  opened : Gives itself (given (tables_of_file bytes)) folders folder folder (Ok (tables_of file))
  opened = gives_stated itself (tables_of_file bytes) folders folder (Ok (tables_of file))
      (ap (unless_faulty (tables_of bytes)) none ∙ ap (λ (b : List ℕ). let read : Result Tables Reason = Ok (tables_of b) in read) (sym same))

  -- if a file is valid, the drawing of its tables is the drawing of the bytes
  pub draws_file : (tables : Tables) (result : Result (List ℕ) Stop) → tables ≡ tables_of file → Gives itself (tables_drawing_work title keys layout tables) folders folder after result
      → Gives itself (bytes_drawing_work title keys layout bytes) folders folder after result
  draws_file tables result is drawn =
      gives_behind itself itself (given (tables_of_file bytes)) (tables_drawing_work title keys layout) folders folder folder after (tables_of file) result opened
      (gives_as itself (tables_drawing_work title keys layout tables) (tables_drawing_work title keys layout (tables_of file)) folders folder after result
      (ap (tables_drawing_work title keys layout) is) drawn)

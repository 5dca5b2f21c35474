-- The effect of a caret move, an external edit and an option change on an engine and an editor that are together.
use Rattle.std.proofs.Common.{◌≡◌, ℕ, ◌+◌, ◌-◌, ◌≤◌, List, ◌++◌, length, map, take, drop, Option, Some, None, refl, sym, ◌∙◌, ap, subst, arith, length-append, length-drop}
use Rattle.std.specs.Prelude.{◌≢◌, Result, Err}
use Rattle.std.proofs.lemmas.Option.{none-some}
use Rattle.std.proofs.lemmas.List.{take-append-drop, length-take-le}
use Rattle.std.proofs.lemmas.Bool.Decides.{nat_tests}
use Rattle.std.proofs.lemmas.Grind.{common_steps}
use Rattle.kmn_base.specs.Lists.{characters, window, IsSound}
use Rattle.kmn_base.specs.declared.codes.Code.TheVariants.{E1, E2}
use Rattle.kmn_base.specs.declared.events.Event.TheVariants as event
use Rattle.kmn_base.specs.declared.items.Element.{Element}
use Rattle.kmn_base.specs.declared.items.Element.TheVariants.{Char}
use Rattle.kmn_base.specs.declared.limits.TheConstants.{TEXT_CHARS}
use Rattle.rule_model.specs.Event.{text_becomes, caret_event, edit_event, edited_text, edit_refusal, moved_caret, event_refusal, whole_text, set_option, setting_event}
use Rattle.context_cache.specs.Cached.{text_with_context}
use Rattle.rule_engine.specs.Engine.{EngineState, option_named, with_option, set_by_host}
use Rattle.editor_model.specs.Text.{EditorText, whole, IsAt, HasTextOf}
use Rattle.editor_model.specs.declared.error.EditError.{EditError}
use Rattle.editor_model.specs.declared.error.EditError.TheVariants as edit
use Rattle.editor_model.specs.Answers.{caret_refusal}
use Rattle.editor_model.specs.Answers.{code_of as edit_code}
use Rattle.play_session.specs.declared.session.StepError.{StepError}
use Rattle.play_session.specs.declared.session.StepError.TheVariants as step
use Rattle.play_session.specs.Answers.{code_of}
use Rattle.play_session.specs.Session.{AreTogether, stands_for}

-- the whole text of a session is the whole text of its editor
pub whole_is : (engine : EngineState) (editor : EditorText) → AreTogether TEXT_CHARS engine editor → whole_text (stands_for engine editor) ≡ whole editor
whole_is engine editor h = ap (λ (left : List ℕ). left ++ editor.right) h.same

-- if an editor has a text with the caret at some position, its whole text is that text
at_whole : (text : List ℕ) (caret : ℕ) (editor : EditorText) → IsAt text caret editor → whole editor ≡ text
at_whole text caret editor h = (λ i. h.left i ++ h.right i) ∙ take-append-drop caret text

-- an editor that has the text of another editor can replace it
pub record ServesAsWell (limit : ℕ) (engine : EngineState) (editor after : EditorText) : Type 0 where
  pub state : stands_for engine after ≡ stands_for engine editor
  pub together : AreTogether limit engine after

pub same_text : (limit : ℕ) (engine : EngineState) (editor after : EditorText) → AreTogether limit engine editor → HasTextOf editor after → ServesAsWell limit engine editor after
same_text limit engine editor after h text =
    let same : (stands_for engine after).left ≡ (stands_for engine editor).left = ap (λ (t : List ℕ). text_with_context t engine.context) text.left in
    record {
      state = λ i. record (stands_for engine editor) { left = same i; right = text.right i };
      together = record {
        same = ap characters same ∙ (h.same ∙ sym text.left);
        sound = subst IsSound (sym same) h.sound;
        context = ap window same ∙ h.context;
        few = omega (arith, h.few, ap length text.left, ap length text.right);
      };
    }

-- the properties of an editor after a caret move
pub record IsMoved (engine : EngineState) (editor after : EditorText) (place : ℕ) : Type 0 where
  pub few : length (whole after) ≤ TEXT_CHARS
  pub state : text_becomes after.left after.right (stands_for engine editor) ≡ caret_event place (stands_for engine editor)

pub caret_moved : (engine : EngineState) (editor after : EditorText) (place : ℕ) → AreTogether TEXT_CHARS engine editor → IsAt (whole editor) place after → IsMoved engine editor after place
caret_moved engine editor after place h at =
    let same : whole editor ≡ whole_text (stands_for engine editor) = sym (whole_is engine editor h) in
    record {
      few = omega (arith, ap length (at_whole (whole editor) place after at), length-append editor.left editor.right, h.few);
      state = λ i. text_becomes ((at.left ∙ ap (take place) same) i) ((at.right ∙ ap (drop place) same) i) (stands_for engine editor);
    }

-- an editor refuses a caret move with the same code as the session
pub caret_refused : (engine : EngineState) (editor : EditorText) (place : ℕ) → AreTogether TEXT_CHARS engine editor
    → caret_refusal place (length (whole editor)) ≡ event_refusal (stands_for engine editor) (event.Caret place)
caret_refused engine editor place h = ap (λ (text : List ℕ). caret_refusal place (length text)) (sym (whole_is engine editor h))

-- if an editor's error is not `Memory`, the error of the step is not `Memory`
abbrev failed : EditError → Result (Unit {0}) EditError
failed error = Err error

pub wants_none : (error : EditError) (given : StepError) → code_of given ≡ edit_code error → failed error ≢ failed edit.Memory → given ≢ step.Memory
wants_none edit.Place given same apart is = none-some E1 (sym (ap code_of is) ∙ same)
wants_none edit.Length given same apart is = none-some E2 (sym (ap code_of is) ∙ same)
wants_none edit.Memory given same apart is = apart refl

-- the properties of an editor after an edit
pub record IsEdited (engine : EngineState) (editor after : EditorText) (from to : ℕ) (text : List ℕ) : Type 0 where
  pub few : length (whole after) ≤ TEXT_CHARS
  pub state : text_becomes after.left after.right (stands_for engine editor) ≡ edit_event from to text (stands_for engine editor)

pub edit_refused : (engine : EngineState) (editor : EditorText) (from to : ℕ) (text : List ℕ) → AreTogether TEXT_CHARS engine editor
    → edit_refusal from to (length text) (length (whole editor)) ≡ event_refusal (stands_for engine editor) (event.Edit from to text)
edit_refused engine editor from to text h = ap (λ (t : List ℕ). edit_refusal from to (length text) (length t)) (sym (whole_is engine editor h))

-- if an edit is not refused, the text has at most a million characters after it
edit_few : (from to count n : ℕ) → edit_refusal from to count n ≡ None → (to ≤ n) × (n - (to - from) + count ≤ 1_000_000) × (from ≤ to)
edit_few from to count n none = grind (arith, nat_tests, common_steps)

edited_length : (from to : ℕ) (text whole : List ℕ) → from ≤ to → to ≤ length whole → length (edited_text from to text whole) ≡ length whole - (to - from) + length text
edited_length from to text whole ordered within =
    omega (arith, length-append (take from whole ++ text) (drop to whole), length-append (take from whole) text, length-take-le from whole (omega arith), length-drop to whole)

pub edit_done : (engine : EngineState) (editor after : EditorText) (from to : ℕ) (text : List ℕ) → AreTogether TEXT_CHARS engine editor
    → edit_refusal from to (length text) (length (whole editor)) ≡ None
    → IsAt (edited_text from to text (whole editor)) (moved_caret from to (length text) (length editor.left)) after → IsEdited engine editor after from to text
edit_done engine editor after from to text h none at =
    let same : whole editor ≡ whole_text (stands_for engine editor) = sym (whole_is engine editor h) in
    let caret : moved_caret from to (length text) (length editor.left) ≡ moved_caret from to (length text) (length (characters (stands_for engine editor).left))
    = ap (λ (left : List ℕ). moved_caret from to (length text) (length left)) (sym h.same) in
    let known = edit_few from to (length text) (length (whole editor)) none in
    record {
      few = omega (
        arith,
        ap length (at_whole (edited_text from to text (whole editor)) (moved_caret from to (length text) (length editor.left)) after at),
        edited_length from to text (whole editor) known.2 known.0,
        known.1,
      );
      state = λ i. text_becomes
          ((at.left ∙ (λ j. take (caret j) (edited_text from to text (same j)))) i)
          ((at.right ∙ (λ j. drop (caret j) (edited_text from to text (same j)))) i) (stands_for engine editor);
    }

pub ruleset caret_steps = (caret_moved, caret_refused, wants_none, same_text)

pub ruleset edit_steps = (edit_done, edit_refused, same_text)

-- an option change has the same effect on an engine and an editor as on the state that they represent
option_is_set : (engine : EngineState) (editor : EditorText) (option : Option ℕ) (value : List Element)
    → stands_for (with_option option value engine) editor ≡ set_option option value (stands_for engine editor)
option_is_set engine editor None value = refl
option_is_set engine editor (Some option) value = refl

pub host_sets : (engine : EngineState) (editor : EditorText) (name value : List ℕ)
    → stands_for (set_by_host name value engine) editor ≡ setting_event name value (stands_for engine editor)
host_sets engine editor name value = option_is_set engine editor (option_named name engine) (map Char value)

-- an option change keeps the text of the session, its tables, and the inserted text and chosen lines of the last press
texts_stay : (limit : ℕ) (engine : EngineState) (editor : EditorText) (option : Option ℕ) (value : List Element) → AreTogether limit engine editor → AreTogether limit (with_option option value engine) editor
texts_stay limit engine editor None value h = h
texts_stay limit engine editor (Some option) value h = record { same = h.same; sound = h.sound; context = h.context; few = h.few }

tables_stay : (engine : EngineState) (option : Option ℕ) (value : List Element) → (with_option option value engine).tables ≡ engine.tables
tables_stay engine None value = refl
tables_stay engine (Some option) value = refl

inserted_stays : (engine : EngineState) (option : Option ℕ) (value : List Element) → (with_option option value engine).inserted ≡ engine.inserted
inserted_stays engine None value = refl
inserted_stays engine (Some option) value = refl

chosen_stays : (engine : EngineState) (option : Option ℕ) (value : List Element) → (with_option option value engine).chosen ≡ engine.chosen
chosen_stays engine None value = refl
chosen_stays engine (Some option) value = refl

pub set_stays_together : (limit : ℕ) (engine : EngineState) (editor : EditorText) (name value : List ℕ) → AreTogether limit engine editor → AreTogether limit (set_by_host name value engine) editor
set_stays_together limit engine editor name value h = texts_stay limit engine editor (option_named name engine) (map Char value) h

pub set_keeps_tables : (engine : EngineState) (name value : List ℕ) → (set_by_host name value engine).tables ≡ engine.tables
set_keeps_tables engine name value = tables_stay engine (option_named name engine) (map Char value)

pub set_keeps_inserted : (engine : EngineState) (name value : List ℕ) → (set_by_host name value engine).inserted ≡ engine.inserted
set_keeps_inserted engine name value = inserted_stays engine (option_named name engine) (map Char value)

pub set_keeps_chosen : (engine : EngineState) (name value : List ℕ) → (set_by_host name value engine).chosen ≡ engine.chosen
set_keeps_chosen engine name value = chosen_stays engine (option_named name engine) (map Char value)

pub ruleset setting_steps = (host_sets, set_stays_together, set_keeps_tables, set_keeps_inserted, set_keeps_chosen)

-- The effect of a key press on an engine and an editor that are together, and the effect of the editor's default.
use Rattle.std.proofs.Common.{◌≡◌, ℕ, ◌+◌, ◌≤◌, Bool, true, false, cond, List, ◌++◌, length, refl, sym, ◌∙◌, ap, inl, inr, arith}
use Rattle.std.proofs.lemmas.Bool.{cases_Bool}
use Rattle.kmn_base.specs.declared.items.Item.{Item}
use Rattle.kmn_base.specs.declared.events.Event.TheVariants as event
use Rattle.kmn_base.specs.declared.keys.KeyPress.{KeyPress}
use Rattle.kmn_base.specs.declared.events.Outcome.{Outcome}
use Rattle.kmn_base.specs.Lists.{characters, without_last, window, IsSound, read_again}
use Rattle.rule_model.specs.declared.event_state.EventState.{EventState}
use Rattle.rule_model.specs.ChosenLines.{chosen, lines_of_press}
use Rattle.rule_model.specs.KeyEvent.{begin_event, after_key, outcome_of, inserted}
use Rattle.virtual_keys.specs.Fits.{is_plain}
use Rattle.rule_model.specs.Event.{State, text_becomes, editor_left, editor_right, by_editor}
use Rattle.rule_model.specs.Tab.{tab}
use Rattle.rule_model.specs.Trace.{first_state}
use Rattle.rule_model.proofs.Bounds.{press_adds_what_it_puts, editor_adds_one}
use Rattle.rule_model.proofs.Budget.{press_is_within_budget}
use Rattle.rule_model.proofs.Edits.{edit_gives_the_text}
use Rattle.rule_model.proofs.Soundness.{press_keeps_sound}
use Rattle.rule_engine.specs.Engine.{EngineState, pressed, press_outcome, press_leaves, synced}
use Rattle.editor_model.specs.Text.{EditorText, left_after, right_after}
use Rattle.play_session.specs.Session.{AreTogether, stands_for}
use Rattle.play_session.specs.Playing.{press_gives, acted}
use Rattle.play_session.proofs.Contexts.{read_the_same, stands_for_list, together_on_list}
use Rattle.play_session.proofs.Readings.{is_read}

-- the properties of a press that returns this outcome and results in this engine; its edit results in the text of the new list
pub record IsPressed (engine : EngineState) (editor : EditorText) (press : KeyPress) (outcome : Outcome) (after : EngineState) : Type 0 where
  pub tells : outcome ≡ outcome_of (stands_for engine editor).left (press_gives engine.tables press (stands_for engine editor))
  pub inserts : after.inserted ≡ inserted (stands_for engine editor).left (press_gives engine.tables press (stands_for engine editor)).left
  pub chooses : after.chosen ≡ chosen (tab engine.tables) (stands_for engine editor) (event.Key press)
  pub tables : after.tables ≡ engine.tables
  pub current : after.current ≡ (press_gives engine.tables press (stands_for engine editor)).current
  pub saved : after.saved ≡ (press_gives engine.tables press (stands_for engine editor)).saved
  pub context : after.context ≡ window (press_gives engine.tables press (stands_for engine editor)).left
  pub deletes : outcome.delete ≤ length editor.left
  pub edits : without_last outcome.delete editor.left ++ after.inserted ≡ characters (press_gives engine.tables press (stands_for engine editor)).left
  pub sound : IsSound (press_gives engine.tables press (stands_for engine editor)).left
  pub few : length (characters (press_gives engine.tables press (stands_for engine editor)).left) + length editor.right ≤ 999_096

pub press_is_done : (engine : EngineState) (editor : EditorText) (press : KeyPress) (outcome : Outcome) (after : EngineState) (text : List ℕ)
    → AreTogether 995_000 engine editor → text ≡ editor.left → outcome ≡ press_outcome text press engine → after ≡ press_leaves text press engine
    → IsPressed engine editor press outcome after
press_is_done engine editor press outcome after text h is_text told gave =
    let list : List Item = (stands_for engine editor).left in
    let same : read_again engine.context text ≡ list = ap (read_again engine.context) is_text ∙ read_the_same 995_000 engine editor h in
    let s : EventState = press_gives engine.tables press (stands_for engine editor) in
    let acted_on : pressed text press engine ≡ s = ap (λ (l : List Item). after_key (tab engine.tables) press (begin_event l engine.current engine.saved)) same in
    let tells : outcome ≡ outcome_of list s = told ∙ (λ i. outcome_of (same i) (acted_on i)) in
    let inserts : after.inserted ≡ inserted list s.left = ap (λ (e : EngineState). e.inserted) gave ∙ (λ i. inserted (same i) (acted_on i).left) in
    let budget : s.put ≤ 4_096 = (press_is_within_budget (tab engine.tables) press list engine.current engine.saved).items in
    let adds : length (characters s.left) ≤ length (characters list) + s.put = press_adds_what_it_puts (tab engine.tables) press list engine.current engine.saved in
    let is_same : editor.left ≡ characters list = sym h.same in
    let count : length editor.left ≡ length (characters list) = ap length is_same in
    record {
      tells = tells;
      inserts = inserts;
      chooses = ap (λ (e : EngineState). e.chosen) gave ∙ ap (λ (l : List Item). lines_of_press (tab engine.tables) press (begin_event l engine.current engine.saved)) same;
      tables = ap (λ (e : EngineState). e.tables) gave;
      current = ap (λ (e : EngineState). e.current) gave ∙ ap (λ (t : EventState). t.current) acted_on;
      saved = ap (λ (e : EngineState). e.saved) gave ∙ ap (λ (t : EventState). t.saved) acted_on;
      context = ap (λ (e : EngineState). e.context) gave ∙ ap (λ (t : EventState). window t.left) acted_on;
      deletes = omega (arith, ap (λ (o : Outcome). o.delete) tells);
      edits = (λ i. without_last (tells i).delete (is_same i) ++ inserts i) ∙ edit_gives_the_text list s.left;
      sound = press_keeps_sound (tab engine.tables) press (begin_event list engine.current engine.saved) h.sound;
      few = omega (arith, h.few);
    }

-- the engine inserts the text that a press inserts by its meaning
pub press_inserts : (engine : EngineState) (editor : EditorText) (press : KeyPress) (text : List ℕ) → AreTogether 995_000 engine editor → text ≡ editor.left
    → (press_leaves text press engine).inserted ≡ inserted (stands_for engine editor).left (press_gives engine.tables press (stands_for engine editor)).left
press_inserts engine editor press text h is_text =
    (press_is_done engine editor press (press_outcome text press engine) (press_leaves text press engine) text h is_text refl refl).inserts

-- the properties of the engine and the editor after the edit of a press
pub record IsEditedBy (engine : EngineState) (editor : EditorText) (press : KeyPress) (after : EngineState) (edited : EditorText) : Type 0 where
  pub state : stands_for after edited ≡ acted (press_gives engine.tables press (stands_for engine editor)) (stands_for engine editor)
  pub together : AreTogether 999_096 after edited

pub press_is_edited : (engine : EngineState) (editor : EditorText) (press : KeyPress) (outcome : Outcome) (after : EngineState) (edited : EditorText)
    → IsPressed engine editor press outcome after → edited.left ≡ without_last outcome.delete editor.left ++ after.inserted → edited.right ≡ editor.right
    → IsEditedBy engine editor press after edited
press_is_edited engine editor press outcome after edited p lefts rights =
    let s : EventState = press_gives engine.tables press (stands_for engine editor) in
    let text : edited.left ≡ characters s.left = lefts ∙ p.edits in
    let list : (stands_for after edited).left ≡ s.left = stands_for_list 999_096 s.left after edited p.sound p.context text in
    record {
      state = λ i. record {
        left = list i;
        right = rights i;
        names = (first_state (tab (p.tables i))).names;
        current = p.current i;
        saved = p.saved i;
      };
      together = together_on_list 999_096 s.left after edited p.sound p.context text (omega (arith, p.few, ap length text, ap length rights));
    }

-- ---- the editor's default

-- selecting a text by a test and reading it again is the same as selecting one of the states after reading again
text_chosen : (state : State) (test : Bool) (left right other_left other_right : List ℕ)
    → text_becomes (cond test left other_left) (cond test right other_right) state ≡ cond test (text_becomes left right state) (text_becomes other_left other_right state)
text_chosen state true left right other_left other_right = refl
text_chosen state false left right other_left other_right = refl

-- the editor inserts at most one character
default_adds_one : (press : KeyPress) (left right : List ℕ) → length (left_after press left right) + length (right_after press left right) ≤ length left + length right + 1
default_adds_one press left right = elim (cases_Bool (is_plain press)) [
  | inl plain ↦ rw plain (editor_adds_one press.code left right)
  | inr held ↦ rw held (omega arith)
]

-- the properties of the engine and the editor after the editor's default
pub record IsPassedOn (engine : EngineState) (editor after : EditorText) (press : KeyPress) : Type 0 where
  pub state : stands_for (synced after.left engine) after ≡ by_editor press (stands_for engine editor)
  pub together : AreTogether 1_000_000 (synced after.left engine) after

pub default_is_done : (engine : EngineState) (editor after : EditorText) (press : KeyPress) → AreTogether 999_096 engine editor
    → after.left ≡ left_after press editor.left editor.right → after.right ≡ right_after press editor.left editor.right → IsPassedOn engine editor after press
default_is_done engine editor after press h lefts rights =
    let state : State = stands_for engine editor in
    let text : List ℕ = characters state.left in
    let left : after.left ≡ left_after press text editor.right = lefts ∙ ap (λ (t : List ℕ). left_after press t editor.right) (sym h.same) in
    let right : after.right ≡ right_after press text editor.right = rights ∙ ap (λ (t : List ℕ). right_after press t editor.right) (sym h.same) in
    let count : length after.left ≡ length (left_after press editor.left editor.right) = ap length lefts in
    let count_right : length after.right ≡ length (right_after press editor.left editor.right) = ap length rights in
    let read = is_read 999_096 1_000_000 engine editor after h (omega (arith, h.few, default_adds_one press editor.left editor.right)) in
    record {
      state = read.state ∙ ((λ i. text_becomes (left i) (right i) state)
          ∙ text_chosen state (is_plain press) (editor_left press.code text editor.right) (editor_right press.code text editor.right) text editor.right);
      together = read.together;
    }

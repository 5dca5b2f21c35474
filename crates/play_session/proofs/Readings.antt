-- An engine reads the text of an editor after a change.
use Rattle.std.proofs.Common.{◌≡◌, ℕ, ◌+◌, ◌≤◌, List, length, refl, sym, ◌∙◌, ap}
use Rattle.kmn_base.specs.declared.items.Item.{Item}
use Rattle.kmn_base.specs.Lists.{characters, read_again}
use Rattle.kmn_base.proofs.ReadingAgain.{reading_again_gives_the_text, reading_again_is_sound}
use Rattle.rule_model.specs.Event.{text_becomes}
use Rattle.rule_engine.specs.Engine.{EngineState, synced}
use Rattle.editor_model.specs.Text.{EditorText}
use Rattle.play_session.specs.Session.{AreTogether, stands_for}
use Rattle.play_session.proofs.Contexts.{read_by_context, stands_for_list, together_on_list}

-- the engine and the editor then represent the text that was read again
pub record IsReadAgain (limit : ℕ) (engine : EngineState) (editor after : EditorText) : Type 0 where
  pub state : stands_for (synced after.left engine) after ≡ text_becomes after.left after.right (stands_for engine editor)
  pub together : AreTogether limit (synced after.left engine) after

pub is_read : (before limit : ℕ) (engine : EngineState) (editor after : EditorText) → AreTogether before engine editor
    → length after.left + length after.right ≤ limit → IsReadAgain limit engine editor after
is_read before limit engine editor after h few =
    let list : List Item = read_again engine.context after.left in
    let text : after.left ≡ characters list = sym (reading_again_gives_the_text engine.context after.left) in
    let left : (stands_for (synced after.left engine) after).left ≡ read_again (stands_for engine editor).left after.left
    = stands_for_list limit list (synced after.left engine) after (reading_again_is_sound engine.context after.left) refl text
    ∙ read_by_context before engine editor after.left h in
    record {
      state = ap (λ (l : List Item). record (stands_for engine editor) { left = l; right = after.right }) left;
      together = together_on_list limit list (synced after.left engine) after (reading_again_is_sound engine.context after.left) refl text few;
    }

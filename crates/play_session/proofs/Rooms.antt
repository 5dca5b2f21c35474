-- A session before its first event: its two texts are empty, and there is capacity for the changes of all options.
use Rattle.std.proofs.Common.{◌≡◌, ℕ, ◌*◌, ◌≤◌, List, [], length, refl, sym, subst, false, arith}
use Rattle.std.proofs.lemmas.List.Elements.{All-nil}
use Rattle.kmn_base.specs.declared.limits.TheConstants.{TEXT_CHARS}
use Rattle.kmn_base.specs.Lists.{is_mark}
use Rattle.rule_model.specs.declared.tables.Tables.{Tables}
use Rattle.rule_engine.specs.Engine.{EngineState, first_engine}
use Rattle.editor_model.specs.Text.{EditorText}
use Rattle.play_session.specs.Changes.{option_stores}
use Rattle.play_session.specs.Session.{AreTogether, HasCapacity}

abbrev pub no_text : EditorText
no_text = record { left = []; right = []; spare = 0 }

begins_together : (tables : Tables) → AreTogether TEXT_CHARS (first_engine tables) no_text
begins_together tables = record { same = refl; sound = All-nil (λ item. is_mark item ≡ false); context = refl; few = omega arith }

pub session_begins : (engine : EngineState) (editor : EditorText) (options : List ℕ) (room : ℕ) → engine ≡ first_engine engine.tables → editor ≡ no_text
    → options ≡ option_stores engine.tables → 2 * length options ≤ room → AreTogether TEXT_CHARS engine editor × HasCapacity engine.tables options room
session_begins engine editor options room is_engine is_editor are enough = (
  subst (λ (e : EngineState). AreTogether TEXT_CHARS e editor) (sym is_engine)
      (subst (λ (t : EditorText). AreTogether TEXT_CHARS (first_engine engine.tables) t) (sym is_editor) (begins_together engine.tables)),
  record { stores = are; changes = enough },
)

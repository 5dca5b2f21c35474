-- A session after a step, by its parts.
use Rattle.std.proofs.Common.{◌≡◌, ℕ, Bool, List, ◌∙◌}
use Rattle.kmn_base.specs.declared.events.Event.{Event}
use Rattle.rule_model.specs.declared.tables.Tables.{Tables}
use Rattle.rule_model.specs.Act.{one_more}
use Rattle.rule_model.specs.ChosenLines.{chosen}
use Rattle.rule_model.specs.Tab.{tab}
use Rattle.option_store.specs.declared.options.Cell.{Cell}
use Rattle.rule_engine.specs.Engine.{EngineState}
use Rattle.editor_model.specs.Text.{EditorText}
use Rattle.play_session.specs.declared.changes.Change.{Change}
use Rattle.play_session.specs.Changes.{Values, values_in, values_now, changes_between}
use Rattle.play_session.specs.Session.{SessionState, stands_for, press_of, typed_text, typed_lines, session_of, happened, values_of, pressed_after, after_step}

-- if cells denote the values of an engine, they also denote them under equal tables
pub values_before : (tables : Tables) (engine : EngineState) (cells before : List Cell) → tables ≡ engine.tables → before ≡ cells
    → values_in engine.tables cells ≡ values_now engine → values_in tables before ≡ values_now engine
values_before tables engine cells before same is values = (λ i. values_in (same i) (is i)) ∙ values

-- if an engine and an editor have the parts of a session after a step, they are this session
pub session_after : (session : SessionState) (event : Event) (engine : EngineState) (editor : EditorText) (number : ℕ) (typed : Bool) (changes : List Change) (before : Values)
    → engine.tables ≡ session.tables → stands_for engine editor ≡ (happened session event).after
    → typed_text typed engine ≡ (happened session event).inserted → typed_lines typed engine ≡ chosen (tab session.tables) session.state event → number ≡ one_more session.number
    → before ≡ values_of session.state → changes ≡ changes_between engine.tables before (values_now engine)
    → press_of engine ≡ pressed_after session event
    → session_of engine editor number typed changes ≡ after_step session event
session_after session event engine editor number typed changes before tables state inserts chooses counts was changed told =
    let all : changes ≡ changes_between session.tables (values_of session.state) (values_of (happened session event).after)
    = changed ∙ (λ i. changes_between (tables i) (was i) (values_of (state i))) in
    λ i. record { tables = tables i; state = state i; number = counts i; inserted = inserts i; chosen = chooses i; changes = all i; pressed = told i }

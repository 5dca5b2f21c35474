-- A press on the engine of a session does what the cell of the press has.
use Rattle.std.proofs.Common.{◌≡◌, ℕ, ◌+◌, ◌-◌, ◌≤◌, List, length, drop, sym, ◌∙◌, ap, refl, subst, arith, length-append}
use Rattle.std.proofs.lemmas.List.Sums.{common_prefix_len-le}
use Rattle.std.specs.Prelude.{nat_eq}
use Rattle.kmn_base.specs.declared.items.Item.{Item}
use Rattle.kmn_base.specs.declared.keys.KeyPress.{KeyPress}
use Rattle.kmn_base.specs.declared.events.Outcome.{Outcome}
use Rattle.kmn_base.specs.Lists.{characters, window, IsSound}
use Rattle.kmn_base.proofs.Lists.{unmarked, length-window, IsSound_from_front}
use Rattle.rule_model.specs.declared.event_state.EventState.{EventState}
use Rattle.rule_model.specs.KeyEvent.{begin_event, after_key, common_prefix, outcome_of, inserted}
use Rattle.rule_model.specs.Event.{whole_text}
use Rattle.rule_model.specs.Tab.{tab}
use Rattle.context_cache.specs.Cached.{text_with_context}
use Rattle.rule_engine.specs.Engine.{EngineState, press_outcome, press_leaves}
use Rattle.editor_model.specs.Text.{EditorText}
use Rattle.play_session.specs.Session.{SessionState, engine_of, stands_for}
use Rattle.play_session.specs.Playing.{press_gives}
use Rattle.play_session.proofs.Contexts.{stands_for_list, together_on_list}
use Rattle.play_session.proofs.Presses.{IsPressed, press_is_done}
use Rattle.chart_board.specs.Cells.{put_items, cell}
use Rattle.chart_board.specs.Windows.{AreSeen, put_between}
use Rattle.chart_board.proofs.Contexts.{contexts_show_put_items}
use Rattle.chart_cells.specs.Layers.{cell_seen}

-- an engine and a text before the caret that are those of a session
pub record AreOf (session : SessionState) (engine : EngineState) (editor : EditorText) : Type 0 where
  pub engine_is : engine ≡ engine_of session
  pub left : editor.left ≡ characters session.state.left
  pub right : editor.right ≡ session.state.right
  pub context : session.state.left ≡ text_with_context editor.left (window session.state.left)
  pub few : length (whole_text session.state) ≤ 995_000

module _ (session : SessionState) (engine : EngineState) (editor : EditorText) (press : KeyPress) (outcome : Outcome) (after : EngineState)
    (of : AreOf session engine editor) (told : outcome ≡ press_outcome editor.left press engine) (gave : after ≡ press_leaves editor.left press engine) where
  -- the items before the caret
  abbrev list : List Item
  list = session.state.left

  sound : IsSound list
  sound = subst IsSound (sym of.context) (IsSound_from_front _ (window list) (unmarked _) (omega (arith, length-window list)))

  has : engine.context ≡ window list
  has = ap (λ (e : EngineState). e.context) of.engine_is

  count : length editor.left + length editor.right ≤ 995_000
  count = omega (arith, of.few, length-append (characters list) session.state.right, ap length of.left, ap length of.right)

  same : (stands_for engine editor).left ≡ list
  same = stands_for_list 995_000 list engine editor sound has of.left

  done : IsPressed engine editor press outcome after
  done = press_is_done engine editor press outcome after editor.left (together_on_list 995_000 list engine editor sound has of.left count) refl told gave

  -- the state that the press leaves
  abbrev state : EventState
  state = press_gives session.tables press session.state

  gives : press_gives engine.tables press (stands_for engine editor) ≡ state
  gives = λ i. after_key (tab (of.engine_is i).tables) press (begin_event (same i) (of.engine_is i).current (of.engine_is i).saved)

  tells : outcome ≡ outcome_of list state
  tells = done.tells ∙ (λ i. outcome_of (same i) (gives i))

  pub deletes_within : outcome.delete ≤ length editor.left
  deletes_within = done.deletes

  kept_few : common_prefix (characters list) (characters state.left) ≤ length (characters list)
  kept_few = (common_prefix_len-le nat_eq (characters list) (characters state.left)).0

  kept : length editor.left - outcome.delete ≡ common_prefix (characters list) (characters state.left)
  kept = omega (arith, ap (λ (o : Outcome). o.delete) tells, kept_few, ap length of.left)

  seen : AreSeen list state.left (drop (length editor.left - outcome.delete) editor.left) after.inserted engine.context after.context
  seen = record {
    old_sound = sound;
    new_sound = subst (λ (s : EventState). IsSound s.left) gives done.sound;
    before = sym has;
    after = sym (done.context ∙ ap (λ (s : EventState). window s.left) gives);
    deleted = sym (λ i. drop (kept i) (of.left i));
    put = sym (done.inserts ∙ (λ i. inserted (same i) (gives i).left));
  }

  shown : put_between (drop (length editor.left - outcome.delete) editor.left) after.inserted engine.context after.context ≡ put_items list state.left
  shown = contexts_show_put_items list state.left _ _ _ _ seen

  -- the cell by what the engine returns
  pub cell_of_engine : cell_seen editor.left outcome engine after ≡ cell session.tables session.state press
  unfolding cell after_key
  cell_of_engine =
      λ i. record { deleted = (tells i).delete; items = shown i; passed = (tells i).pass; beeps = (tells i).beeps }

-- a press on a copy of the engine
module _ (session : SessionState) (engine copied after : EngineState) (editor : EditorText) (left : List ℕ) (press : KeyPress) (outcome : Outcome)
    (of : AreOf session engine editor) (same : copied ≡ engine) (is : left ≡ editor.left) (told : outcome ≡ press_outcome left press copied)
    (gave : after ≡ press_leaves left press copied) where
  told_same : outcome ≡ press_outcome editor.left press engine
  told_same = told ∙ (λ i. press_outcome (is i) press (same i))

  gave_same : after ≡ press_leaves editor.left press engine
  gave_same = gave ∙ (λ i. press_leaves (is i) press (same i))

  -- it deletes no more than there is
  pub deletes_few : outcome.delete ≤ length left
  deletes_few =
      let few : outcome.delete ≤ length editor.left = deletes_within session engine editor press outcome after of told_same gave_same in
      omega (arith, few, ap length is)

  -- the cell that is seen is the cell of the press
  pub seen_is_cell : cell_seen left outcome engine after ≡ cell session.tables session.state press
  seen_is_cell =
      ap (λ (text : List ℕ). cell_seen text outcome engine after) is
      ∙ cell_of_engine session engine editor press outcome after of told_same gave_same

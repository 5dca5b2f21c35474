-- A sound list is its text with its window as the last items, so an engine and an editor that have both represent it.
use Rattle.std.proofs.Common.{◌≡◌, ℕ, ◌+◌, ◌-◌, ◌≤◌, List, ◌++◌, length, take, map, sym, ◌∙◌, ap, subst, arith, length-append}
use Rattle.std.proofs.lemmas.List.{take-append-drop, take_at}
use Rattle.kmn_base.specs.declared.items.Item.{Item}
use Rattle.kmn_base.specs.declared.items.Item.TheVariants.{Char}
use Rattle.kmn_base.specs.Lists.{characters, without_last, window, read_again, IsSound}
use Rattle.kmn_base.proofs.Lists.{characters-append, map-characters, window_short, length-window}
use Rattle.kmn_base.proofs.ReadingAgain.{reading_again_needs_the_window, reading_again_the_same_text}
use Rattle.context_cache.specs.Cached.{text_with_context}
use Rattle.rule_engine.specs.Engine.{EngineState}
use Rattle.editor_model.specs.Text.{EditorText}
use Rattle.play_session.specs.Session.{AreTogether, stands_for}

pub list_is_text_with_context : (items : List Item) → IsSound items → items ≡ text_with_context (characters items) (window items)
list_is_text_with_context items sound =
    let front : List Item = without_last 64 items in
    let kept : List Item = window items in
    let whole : front ++ kept ≡ items = take-append-drop (length items - 64) items in
    let text : characters items ≡ characters front ++ characters kept = ap characters (sym whole) ∙ characters-append front kept in
    let count : length (characters items) ≡ length (characters front) + length (characters kept) = ap length text ∙ length-append (characters front) (characters kept) in
    let before : without_last (length (characters kept)) (characters items) ≡ characters front
    = ap (λ (cs : List ℕ). take (length (characters items) - length (characters kept)) cs) text
    ∙ take_at (characters front) (characters kept) (length (characters items) - length (characters kept)) (omega arith) in
    sym (ap (λ (cs : List ℕ). map Char cs ++ kept) before ∙ ap (λ (xs : List Item). xs ++ kept) (map-characters front sound) ∙ whole)

-- if an engine has the window of a sound list and an editor has its text, they represent the list together
module _ (limit : ℕ) (items : List Item) (engine : EngineState) (editor : EditorText) (sound : IsSound items) (has : engine.context ≡ window items) (text : editor.left ≡ characters items) where
  pub stands_for_list : (stands_for engine editor).left ≡ items
  stands_for_list =
      (λ i. text_with_context (text i) (has i)) ∙ sym (list_is_text_with_context items sound)

  pub together_on_list : length editor.left + length editor.right ≤ limit → AreTogether limit engine editor
  together_on_list few = record {
    same = ap characters stands_for_list ∙ sym text;
    sound = subst IsSound (sym stands_for_list) sound;
    context = ap window stands_for_list ∙ sym has;
    few = few;
  }

-- reading a text again with the context of the engine is the same as with the left list that the engine and the editor represent
pub read_by_context : (limit : ℕ) (engine : EngineState) (editor : EditorText) (text : List ℕ) → AreTogether limit engine editor
    → read_again engine.context text ≡ read_again (stands_for engine editor).left text
read_by_context limit engine editor text h =
    let list : List Item = (stands_for engine editor).left in
    let few : length (window list) ≤ 64 = omega (arith, length-window list) in
    let same : window engine.context ≡ window list = ap window (sym h.context) ∙ window_short (window list) few in
    reading_again_needs_the_window engine.context list text same

-- reading the editor's text again does not change the list
pub read_the_same : (limit : ℕ) (engine : EngineState) (editor : EditorText) → AreTogether limit engine editor
    → read_again engine.context editor.left ≡ (stands_for engine editor).left
read_the_same limit engine editor h =
    let list : List Item = (stands_for engine editor).left in
    read_by_context limit engine editor editor.left h ∙ (ap (read_again list) (sym h.same) ∙ reading_again_the_same_text list h.sound)

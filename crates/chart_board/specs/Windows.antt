-- The items that a press put, found in the cached contexts before and after the press.
use Rattle.std.specs.Prelude.{◌≡◌, ℕ, ◌-◌, nat_le, if◌then◌else◌, List, ◌++◌, length, take, drop, map}
use Rattle.kmn_base.specs.declared.items.Item.{Item}
use Rattle.kmn_base.specs.declared.items.Item.TheVariants.{Char}
use Rattle.kmn_base.specs.Lists.{characters, window, IsSound}
use Rattle.rule_model.specs.KeyEvent.{common_prefix, inserted}
use Rattle.chart_board.specs.Cells.{items_after, without_common, put_items}

-- the items at the end of a list that have these characters, with the marks before them; the first of these characters may be before the
-- context of the list
abbrev pub end_items : List ℕ → List Item → List Item
end_items chars context =
    if nat_le (length (characters context)) (length chars)
    then map Char (take (length chars - length (characters context)) chars) ++ context
    else items_after (length (characters context) - length chars) context

-- the items that a press put, from the characters that it deleted and those that it inserted, and the contexts before and after it
unfoldable pub put_between : List ℕ → List ℕ → List Item → List Item → List Item
put_between deleted inserted before after = without_common (end_items deleted before) (end_items inserted after)

-- the characters that a press deletes: those of the old text after the characters with which both texts begin
abbrev pub deleted_text : List Item → List Item → List ℕ
deleted_text old new = drop (common_prefix (characters old) (characters new)) (characters old)

-- the contexts of the items before and after a press, and the characters that it deleted and inserted
pub record AreSeen (old new : List Item) (removed added : List ℕ) (early late : List Item) : Type 0 where
  pub old_sound : IsSound old
  pub new_sound : IsSound new
  pub before : window old ≡ early
  pub after : window new ≡ late
  pub deleted : deleted_text old new ≡ removed
  pub put : inserted old new ≡ added

-- the contexts show which items a press put, however long the text is
abbrev pub ContextsShowPutItems : Type 0
ContextsShowPutItems = (old new : List Item) (deleted put : List ℕ) (before after : List Item) → AreSeen old new deleted put before after
    → put_between deleted put before after ≡ put_items old new

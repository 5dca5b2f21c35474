-- The lines that are added if more entries are allowed.
use Rattle.std.proofs.Common.{◌≡◌, ℕ, zero, suc, ◌+◌, ◌-◌, List, refl, arith}
use Rattle.std.specs.Prelude.{slice_get, option_map}
use Rattle.kmn_base.specs.declared.keys.KeyPress.{KeyPress}
use Rattle.rule_model.specs.declared.event_state.EventState.{EventState}
use Rattle.rule_model.specs.declared.tables.Tables.{Tables}
use Rattle.rule_model.specs.Keyboard.{Numbered}
use Rattle.rule_model.specs.Enter.{enter_group}
use Rattle.rule_model.specs.Tab.{tab, tab_group}
use Rattle.rule_model.proofs.PlainKeyboard.{group_numbered}
use Rattle.rule_model.specs.ChosenLines.{lines_in_group, add_lines}

-- entering a group adds the lines of that group
pub more_lines : (tables : Tables) (depth : ℕ) (press : KeyPress) (n : ℕ) (s : EventState) (lines : List ℕ) → (depth ≡ 0 → ⊥)
    → add_lines depth (tab tables) press (Numbered n) s lines
    ≡ lines_in_group (tab tables) (enter_group (depth - 1) (tab tables) press) (add_lines (depth - 1) (tab tables) press) press
    (option_map (tab_group tables.stores) (slice_get tables.groups n)) (record s { entered = s.entered + 1 }) lines
more_lines tables zero press n s lines more = absurd (more refl)
more_lines tables (suc depth) press n s lines more =
    let kb = tab tables in
    let less : depth ≡ suc depth - 1 = omega arith in
    (λ j. lines_in_group kb (enter_group (less j) kb press) (add_lines (less j) kb press) press (group_numbered tables n j) (record s { entered = s.entered + 1 }) lines)

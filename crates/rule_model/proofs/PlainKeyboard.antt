-- The keyboard of tables, part by part.
use Rattle.std.proofs.Common.{◌≡◌, ℕ, zero, suc, ◌+◌, ◌-◌, refl, arith}
use Rattle.std.proofs.lemmas.Option.{slice_get-map}
use Rattle.std.specs.Prelude.{slice_get, option_map}
use Rattle.kmn_base.specs.declared.keys.KeyPress.{KeyPress}
use Rattle.rule_model.specs.declared.event_state.EventState.{EventState}
use Rattle.rule_model.specs.declared.tables.Tables.{Tables}
use Rattle.rule_model.specs.Keyboard.{Numbered, GroupMeaning}
use Rattle.rule_model.specs.Content.{group_at}
use Rattle.rule_model.specs.Hold.{holds}
use Rattle.rule_model.specs.Choose.{first}
use Rattle.rule_model.specs.Act.{content_now}
use Rattle.rule_model.specs.Enter.{chosen_in, in_group, enter_group}
use Rattle.rule_model.specs.Tab.{tab, tab_group}

-- the first record that holds is selected
pub chosen_first : (tables : Tables) (press : KeyPress) (group : GroupMeaning) (s : EventState) → chosen_in (tab tables) press group s ≡ first (holds (content_now (tab tables) s) s.left press) group.rules
unfolding tab
chosen_first tables press group s = refl

-- a group by its number
pub group_numbered : (tables : Tables) (n : ℕ) → group_at (tab tables).groups (Numbered n) ≡ option_map (tab_group tables.stores) (slice_get tables.groups n)
unfolding tab
group_numbered tables n = slice_get-map (tab_group tables.stores) tables.groups n

-- entering a group if more entries are allowed
pub enter_more : (tables : Tables) (depth : ℕ) (press : KeyPress) (n : ℕ) (s : EventState) → (depth ≡ 0 → ⊥)
    → enter_group depth (tab tables) press (Numbered n) s ≡ in_group (tab tables) (enter_group (depth - 1) (tab tables) press) press (option_map (tab_group tables.stores) (slice_get tables.groups n)) (record s { entered = s.entered + 1 })
enter_more tables zero press n s more = absurd (more refl)
enter_more tables (suc depth) press n s more =
    let kb = tab tables in
    let less : depth ≡ suc depth - 1 = omega arith in
    (λ j. in_group kb (enter_group (less j) kb press) press (group_numbered tables n j) (record s { entered = s.entered + 1 }))

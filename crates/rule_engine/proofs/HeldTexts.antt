-- If a store is stated with a text of the host, an option that holds the store has the same values as one that holds the text.
use Rattle.std.proofs.Common.{◌≡◌, ℕ, ◌<◌, true, List, length, map, Some, Result, Ok, Err, sym, ap, ◌∙◌, length-set, subst, arith}
use Rattle.std.specs.Prelude.{MatchResult, is_some, slice_set}
use Rattle.std.proofs.lemmas.List.{map-set, set-set}
use Rattle.kmn_base.specs.declared.items.Element.TheVariants.{Char}
use Rattle.rule_model.specs.declared.tables.Tables.{Tables}
use Rattle.rule_model.specs.Content.{elements_at, option_number}
use Rattle.rule_model.specs.Keyboard.{Numbered, stated}
use Rattle.rule_model.specs.Plain.{of_options}
use Rattle.rule_model.specs.Tab.{tab}
use Rattle.option_store.specs.declared.options.Cell.{Cell}
use Rattle.option_store.specs.declared.options.Held.TheVariants.{Store}
use Rattle.option_store.specs.Cells.{cell_at, changed, current_value, held_value, host_cell, save_cell, saved_value, set_cell}
use Rattle.rule_engine.specs.Event.{HoldTheSame, OthersHoldThemselves}
use Rattle.rule_engine.proofs.OtherStores.{cell_there, host_keeps, others_kept, save_keeps, set_keeps}
use Rattle.rule_index.specs.Texts.{IsApart}
use Rattle.rule_matching.proofs.StoreContents.{elements_held}

-- ---- the text as a store

module _ (tables : Tables) (cells first after : List Cell) (n value : ℕ) (text : List ℕ) (few : n < length cells)
    (same : elements_at (tab tables).stores (Some value) ≡ map Char text) (set : first ≡ changed n (set_cell value) cells) (saved : after ≡ changed n save_cell first) where
  -- the cell as the two changes leave it
  abbrev cell : Cell
  cell = save_cell (set_cell value (cell_at cells n))

  -- the cell with the text of the host
  abbrev other : Cell
  other = host_cell text (cell_at cells n)

  -- both changes together write one cell
  written : after ≡ slice_set cells n cell
  written =
      saved
      ∙ (λ i. slice_set (set i) n (save_cell ((ap (λ (these : List Cell). cell_at these n) set ∙ cell_there cells n (set_cell value) few) i)))
      ∙ set-set cells n (set_cell value (cell_at cells n)) cell

  -- the store has the text's characters
  held : (old : List ℕ) → held_value (stated (tab tables).stores) old (Store value) ≡ map Char text
  held old = sym (elements_held tables old value) ∙ same

  -- the cells hold the same values as with the text of the host
  pub held_the_same : HoldTheSame (tab tables).stores after (changed n (host_cell text) cells)
  held_the_same = record {
    current =
        ap (λ (these : List Cell). of_options (tab tables).stores (map (current_value (stated (tab tables).stores)) these)) written
        ∙ ap (of_options (tab tables).stores)
        (map-set (current_value (stated (tab tables).stores)) cells n cell
        ∙ (λ i. slice_set (map (current_value (stated (tab tables).stores)) cells) n (held (cell_at cells n).text i))
        ∙ sym (map-set (current_value (stated (tab tables).stores)) cells n other));
    saved =
        ap (λ (these : List Cell). of_options (tab tables).stores (map (saved_value (stated (tab tables).stores)) these)) written
        ∙ ap (of_options (tab tables).stores)
        (map-set (saved_value (stated (tab tables).stores)) cells n cell
        ∙ (λ i. slice_set (map (saved_value (stated (tab tables).stores)) cells) n (Some (held (cell_at cells n).text i)))
        ∙ sym (map-set (saved_value (stated (tab tables).stores)) cells n other));
    count = ap length written ∙ length-set cells n cell ∙ sym (length-set cells n other);
  }

-- ---- the other stores hold themselves afterwards

-- if the text itself is held and no store is stated with it
pub others_given : {A E : Type 0} (tables : Tables) (cells after : List Cell) (n : ℕ) (text : List ℕ) (result : Result A E) → n < length cells
    → is_some (option_number (tab tables).stores (Numbered n)) ≡ true → OthersHoldThemselves tables cells → IsApart (tab tables).stores text
    → MatchResult result (λ _. after ≡ changed n (host_cell text) cells) (λ _. after ≡ cells) → OthersHoldThemselves tables after
others_given tables cells after n text (Ok x) few option others apart done = others_kept tables cells after n (host_cell text) option few (host_keeps (tab tables).stores text apart) done others
others_given tables cells after n text (Err e) few option others apart done = subst (OthersHoldThemselves tables) (sym done) others

-- if the store is held
pub others_held : (tables : Tables) (cells first after : List Cell) (n value : ℕ) → n < length cells
    → is_some (option_number (tab tables).stores (Numbered n)) ≡ true → OthersHoldThemselves tables cells
    → first ≡ changed n (set_cell value) cells → after ≡ changed n save_cell first → OthersHoldThemselves tables after
others_held tables cells first after n value few option others set saved =
    let long : n < length first = omega (arith, few, ap length set, length-set cells n (set_cell value (cell_at cells n))) in
    others_kept tables first after n save_cell option long (save_keeps (tab tables).stores) saved
    (others_kept tables cells first n (set_cell value) option few (set_keeps (tab tables).stores value) set others)

-- Whether the platform has the words of each store's elements depends only on the cell of the platform.
use Rattle.std.proofs.Common.{◌≡◌, ◌≢◌, ℕ, ◌+◌, ◌-◌, ◌<◌, List, [], length, map, Bool, true, ◌++◌, take, drop, append-nil, Option, Some, Result, Ok, Err, sym, ◌∙◌, ap, refl, inl, inr, arith, length-set}
use Rattle.std.specs.Prelude.{MatchResult, is_some, unwrap_or}
use Rattle.std.proofs.lemmas.Bool.Decides.{eqb_tells}
use Rattle.std.proofs.lemmas.List.{length-map}
use Rattle.std.proofs.Math.ListN.{drop_of_length-le}
use Rattle.std.proofs.Math.Seq.{take-length}
use Rattle.kmn_base.specs.declared.items.Element.{Element}
use Rattle.kmn_base.specs.declared.items.Element.TheVariants.{Char}
use Rattle.rule_model.specs.declared.tables.Tables.{Tables}
use Rattle.rule_model.specs.Content.{content, elements_at, option_number}
use Rattle.rule_model.specs.Keyboard.{Numbered, Platform, StoreMeaning, stated}
use Rattle.rule_model.specs.Plain.{option_names}
use Rattle.rule_model.specs.System.{has_words}
use Rattle.rule_model.specs.Tab.{tab, tab_options, with_options}
use Rattle.rule_model.proofs.SystemOptions.{platform_numbered, content_by_option}
use Rattle.option_store.specs.declared.options.Cell.{Cell}
use Rattle.option_store.specs.Cells.{cell_at, changed, current_value, first_cell, first_cells, host_cell, save_cell, set_cell}
use Rattle.option_store.specs.Meaning.{option_values}
use Rattle.option_store.proofs.FirstCells.{first_cells_count}
use Rattle.option_store.proofs.Meaning.{option_value_found, stated_at}
use Rattle.rule_matching.specs.MatchState.{content_at, truths_at}
use Rattle.rule_engine.specs.Event.{CanAct, match_state_with}
use Rattle.rule_index.proofs.StoreIndexes.{count_of_all}
use Rattle.rule_matching.proofs.StoreContents.{elements_held}
use Rattle.rule_engine.proofs.OtherStores.{Keeps, cell_at_first, cell_elsewhere, cell_there, others_kept, save_keeps}

-- the platform is an option
platform_is_option : (tables : Tables) → option_number (tab tables).stores Platform ≡ Some (length (option_names (with_options (tab_options tables) 0 tables.stores)) + 1)
unfolding tab
platform_is_option tables = platform_numbered (with_options (tab_options tables) 0 tables.stores)

-- the cell of the platform is the last
abbrev pub platform_cell : Tables → List Cell → Cell
platform_cell tables cells = cell_at cells (length (tab tables).stores - 1)

-- truths by a content of the platform
abbrev pub truths_by : Tables → List Element → List Bool
truths_by tables content = map (λ (store : StoreMeaning). has_words content store.elements) (tab tables).stores

-- ---- what the platform has

module _ (tables : Tables) where
  abbrev stores : List StoreMeaning
  stores = (tab tables).stores

  platform_content : (cells : List Cell) → length cells ≡ length (tab tables).stores
      → content_at (match_state_with tables cells) Platform ≡ current_value (stated (tab tables).stores) (platform_cell tables cells)
  platform_content cells count =
      let option = platform_is_option tables in
      content_by_option stores (option_values stores cells) Platform _ option
      ∙ ap (λ (value : Option (List Element)). unwrap_or value [])
      (option_value_found stores cells (length stores - 1) (omega (arith, count, count_of_all tables)) _ option)

  truths_told : (cells : List Cell) (content : List Element) → length cells ≡ length (tab tables).stores
      → current_value (stated (tab tables).stores) (platform_cell tables cells) ≡ content → truths_at (match_state_with tables cells) ≡ truths_by tables content
  truths_told cells content count is = ap (truths_by tables) (platform_content cells count ∙ is)

-- ---- what changes the truths

-- if a cell that is not the last one changes, the truths stay
pub truths_kept : (tables : Tables) (cells after : List Cell) (n : ℕ) (change : Cell → Cell) → length cells ≡ length (tab tables).stores → n + 1 < length (tab tables).stores
    → after ≡ changed n change cells → truths_at (match_state_with tables cells) ≡ truths_at (match_state_with tables after)
truths_kept tables cells after n change count before is =
    let last : ℕ = length (tab tables).stores - 1 in
    let other : last ≢ n = omega (arith, before) in
    let counted : length after ≡ length (tab tables).stores = ap length is ∙ (length-set cells n (change (cell_at cells n)) ∙ count) in
    let same : cell_at after last ≡ cell_at cells last = ap (λ these. cell_at these last) is ∙ cell_elsewhere cells n last change other in
    let content : List Element = current_value (stated (tab tables).stores) (platform_cell tables cells) in
    truths_told tables cells content count refl
    ∙ sym (truths_told tables after content counted (ap (current_value (stated (tab tables).stores)) same))

-- so they do if the cell is set, or if an allocation fails and the cells stay
pub truths_kept_or_left : {A E : Type 0} (tables : Tables) (cells after : List Cell) (n : ℕ) (change : Cell → Cell) (result : Result A E)
    → length cells ≡ length (tab tables).stores → n < length (tab tables).stores → n ≢ length (tab tables).stores - 1
    → MatchResult result (λ _. after ≡ changed n change cells) (λ _. after ≡ cells)
    → truths_at (match_state_with tables cells) ≡ truths_at (match_state_with tables after)
truths_kept_or_left tables cells after n change (Ok x) count within other done =
    truths_kept tables cells after n change count (omega (arith, within, other)) done
truths_kept_or_left tables cells after n change (Err e) count within other done = ap (λ (these : List Cell). truths_at (match_state_with tables these)) (sym done)

-- so an event can act on the changed cells
pub acts_on : (tables : Tables) (cells after : List Cell) (truths : List Bool) (places : ℕ × ℕ) (n : ℕ) (change : Cell → Cell) → CanAct tables cells truths places → n + 1 < length (tab tables).stores → Keeps (tab tables).stores change
    → is_some (option_number (tab tables).stores (Numbered n)) ≡ true → after ≡ changed n change cells → CanAct tables after truths places
acts_on tables cells after truths places n change can before keeps option is = record {
  short = can.short;
  platform = can.platform;
  stores = ap length is ∙ (length-set cells n (change (cell_at cells n)) ∙ can.stores);
  others = others_kept tables cells after n change option (omega (arith, before, can.stores)) keeps is can.others;
  right = can.right ∙ truths_kept tables cells after n change can.stores before is;
  places = can.places;
}

-- if the current value of a cell is saved, the current values stay
saved_in : (cells : List Cell) (n m : ℕ) (elements : List (List Element)) → n < length cells → current_value elements (cell_at (changed n save_cell cells) m) ≡ current_value elements (cell_at cells m)
saved_in cells n m elements few = elim (eqb_tells m n) [
  | inl here ↦ ap (λ k. current_value elements (cell_at (changed n save_cell cells) k)) here.1
      ∙ (ap (current_value elements) (cell_there cells n save_cell few) ∙ ap (λ k. current_value elements (cell_at cells k)) (sym here.1))
  | inr other ↦ ap (current_value elements) (cell_elsewhere cells n m save_cell other.1)
]

pub acts_on_saved : (tables : Tables) (cells after : List Cell) (truths : List Bool) (places : ℕ × ℕ) (n : ℕ) → CanAct tables cells truths places → n < length cells
    → is_some (option_number (tab tables).stores (Numbered n)) ≡ true → after ≡ changed n save_cell cells → CanAct tables after truths places
acts_on_saved tables cells after truths places n can few option is =
    let stores : List StoreMeaning = (tab tables).stores in
    let counted : length after ≡ length stores = ap length is ∙ (length-set cells n (save_cell (cell_at cells n)) ∙ can.stores) in
    let same : current_value (stated stores) (platform_cell tables after) ≡ current_value (stated stores) (platform_cell tables cells)
    = ap (λ (these : List Cell). current_value (stated stores) (platform_cell tables these)) is ∙ saved_in cells n (length stores - 1) (stated stores) few in
    record {
      short = can.short;
      platform = can.platform;
      stores = counted;
      others = others_kept tables cells after n save_cell option few (save_keeps stores) is can.others;
      right = can.right ∙ (truths_told tables cells (current_value (stated stores) (platform_cell tables cells)) can.stores refl ∙ sym (truths_told tables after _ counted same));
      places = can.places;
    }

-- if the host sets the last cell to a text, the truths are those of the text
pub truths_given : (tables : Tables) (cells after : List Cell) (n : ℕ) (text : List ℕ) → length cells ≡ length (tab tables).stores → n ≡ length (tab tables).stores - 1
    → after ≡ changed n (host_cell text) cells
    → truths_by tables (map Char text) ≡ truths_at (match_state_with tables after)
truths_given tables cells after n text count last is =
    let counted : length after ≡ length (tab tables).stores = ap length is ∙ (length-set cells n (host_cell text (cell_at cells n)) ∙ count) in
    let few : n < length cells = omega (arith, count, last, count_of_all tables) in
    let cell : platform_cell tables after ≡ host_cell text (cell_at cells n)
    = (λ i. cell_at (is i) (sym last i)) ∙ cell_there cells n (host_cell text) few in
    sym (truths_told tables after (map Char text) counted (ap (current_value (stated (tab tables).stores)) cell))

-- at the start the truths are those of the elements that the platform is stated with
pub truths_at_first : (tables : Tables) (cells : List Cell) (n : ℕ) → cells ≡ first_cells 0 (length (tab tables).stores) → n ≡ length (tab tables).stores - 1
    → truths_by tables (elements_at (tab tables).stores (Some n)) ≡ truths_at (match_state_with tables cells)
truths_at_first tables cells n are last =
    let all : List StoreMeaning = (tab tables).stores in
    let cell : platform_cell tables cells ≡ first_cell n
    = (λ i. cell_at (are i) (sym last i)) ∙ cell_at_first (length all) n in
    let counted : length cells ≡ length all = ap length are ∙ first_cells_count 0 (length all) in
    sym (truths_told tables cells (elements_at all (Some n)) counted (ap (current_value (stated all)) cell ∙ stated_at all n))

-- ---- after a store is held

module _ (tables : Tables) (cells after : List Cell) (n value : ℕ) (count : length cells ≡ length (tab tables).stores) (is : after ≡ changed n save_cell (changed n (set_cell value) cells)) where
  -- the first of the two changes
  abbrev first : List Cell
  first = changed n (set_cell value) cells

  first_counted : length first ≡ length (tab tables).stores
  first_counted = length-set cells n (set_cell value (cell_at cells n)) ∙ count

  -- if the store is not the last one, the truths stay
  pub truths_kept_held : n < length (tab tables).stores → n ≢ length (tab tables).stores - 1 → truths_at (match_state_with tables cells) ≡ truths_at (match_state_with tables after)
  truths_kept_held within other =
      let before : n + 1 < length (tab tables).stores = omega (arith, within, other) in
      truths_kept tables cells first n (set_cell value) count before refl ∙ truths_kept tables first after n save_cell first_counted before is

  -- if the store is the last one, the truths are those of the elements of the store that it holds
  pub truths_held : n ≡ length (tab tables).stores - 1 → truths_by tables (elements_at (tab tables).stores (Some value)) ≡ truths_at (match_state_with tables after)
  truths_held last =
      let all : List StoreMeaning = (tab tables).stores in
      let few : n < length cells = omega (arith, count, last, count_of_all tables) in
      let long : n < length first = omega (arith, first_counted, last, count_of_all tables) in
      let counted : length after ≡ length all = ap length is ∙ (length-set first n (save_cell (cell_at first n)) ∙ first_counted) in
      let cell : platform_cell tables after ≡ save_cell (set_cell value (cell_at cells n))
      = (λ i. cell_at (is i) (sym last i)) ∙ (cell_there first n save_cell long ∙ ap save_cell (cell_there cells n (set_cell value) few)) in
      sym (truths_told tables after (elements_at all (Some value)) counted (ap (current_value (stated all)) cell ∙ sym (elements_held tables (cell_at cells n).text value)))

-- ---- written in place

-- a list that is written over by one of the same length is that one
pub written_over : {X : Type 0} (n : ℕ) (before new : List X) → n ≡ length before → length new ≡ length before → take n (new ++ drop (length new) before) ≡ new
written_over n before new count same =
    let none : drop (length new) before ≡ [] = drop_of_length-le before (omega (arith, same)) in
    let whole : n ≡ length new = count ∙ sym same in
    (λ i. take (whole i) (new ++ none i)) ∙ (ap (take (length new)) (append-nil new) ∙ take-length new)

pub truths_counted : (tables : Tables) (truths : List Bool) (content : List Element) → truths ≡ truths_by tables content → length truths ≡ length (tab tables).stores
truths_counted tables truths content are = ap length are ∙ length-map (tab tables).stores (λ (store : StoreMeaning). has_words content store.elements)

pub truths_at_counted : (tables : Tables) (truths : List Bool) (cells : List Cell) → truths ≡ truths_at (match_state_with tables cells) → length truths ≡ length (tab tables).stores
truths_at_counted tables truths cells are = truths_counted tables truths (content_at (match_state_with tables cells) Platform) are

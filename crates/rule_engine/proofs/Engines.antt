-- What an engine is made of, at its start and later.
use Rattle.std.proofs.Common.{◌≡◌, ℕ, suc, ◌<◌, get_or, Bool, true, false, List, [], ◌∷◌, length, map, Option, Some, None, refl, sym, ◌∙◌, ap, arith}
use Rattle.std.specs.Prelude.{if◌then◌else◌, slice_get, slice_set}
use Rattle.std.specs.Option.{option_flatten}
use Rattle.std.proofs.Math.Path.{transport}
use Rattle.std.proofs.lemmas.Option.{slice_get-get_or}
use Rattle.std.proofs.lemmas.List.{length-map}
use Rattle.kmn_base.specs.declared.items.Item.{Item}
use Rattle.kmn_base.specs.declared.items.Element.{Element}
use Rattle.kmn_base.specs.declared.items.Element.TheVariants.{Char}
use Rattle.kmn_base.specs.declared.limits.TheConstants.{EVENT_ENTRIES, EVENT_PUTS, WINDOW_ITEMS}
use Rattle.rule_model.specs.declared.tables.Tables.{Tables}
use Rattle.rule_model.specs.Keyboard.{StoreMeaning, Numbered, stated}
use Rattle.rule_model.specs.Plain.{of_options}
use Rattle.rule_model.specs.Content.{option_number}
use Rattle.rule_model.specs.Event.{State, set_option}
use Rattle.rule_model.specs.Tab.{tab}
use Rattle.rule_model.specs.Trace.{options_of, first_state}
use Rattle.option_store.specs.declared.options.Cell.{Cell}
use Rattle.option_store.specs.Cells.{first_cells, changed, host_cell, current_value, saved_value}
use Rattle.option_store.specs.Meaning.{option_values, option_saves, holding}
use Rattle.option_store.proofs.FirstCells.{first_cells_count}
use Rattle.option_store.proofs.Meaning.{calls_follow, first_option_values, first_option_saves}
use Rattle.event_text.specs.Boxed.{CacheValue}
use Rattle.event_text.specs.Texts.{InsertedValue}
use Rattle.rule_engine.specs.Engine.{EngineState, IsEngine, IsRunnable, IsAtWork, engine_with, first_engine, option_named, with_option, set_by_host}
use Rattle.rule_engine.specs.Event.{HasPlaces, HoldTheSame, match_state_with}
use Rattle.rule_engine.proofs.OtherStores.{others_at_first}
use Rattle.rule_matching.specs.MatchState.{truths_at}

-- there are as many values of options as options
module _ {X : Type 0} where
  values_counted : (stores : List StoreMeaning) (values : List X) → length values ≡ length stores → length (of_options stores values) ≡ length (options_of stores)
  values_counted [] values count = refl
  values_counted (s ∷ ss) [] count = absurd (omega arith)
  values_counted (s ∷ ss) (v ∷ vs) count =
      let behind : length (of_options ss vs) ≡ length (options_of ss) = values_counted ss vs (omega arith) in
      one s.is_option behind
    where
      one : (is_option : Bool) → length (of_options ss vs) ≡ length (options_of ss)
          → length (if is_option then v ∷ of_options ss vs else of_options ss vs) ≡ length (if is_option then s ∷ options_of ss else options_of ss)
      one true behind = ap suc behind
      one false behind = behind

pub at_work_is_engine : (tables : Tables) (cache : CacheValue) (cells : List Cell) (truths : List Bool) (inserted : InsertedValue) (chosen : List ℕ) (lines : ℕ) (places : ℕ × ℕ)
    → IsAtWork tables cache cells truths inserted lines places → IsEngine (engine_with tables cache.items cells inserted.text chosen)
at_work_is_engine tables cache cells truths inserted chosen lines places h =
    let stores : List StoreMeaning = (tab tables).stores in
    record {
      few = h.few;
      current = values_counted stores _ (length-map cells (current_value (stated stores)) ∙ h.stores);
      saved = values_counted stores _ (length-map cells (saved_value (stated stores)) ∙ h.stores);
      inserted = h.text;
    }

abbrev pub nothing_inserted : InsertedValue
nothing_inserted = record { text = []; room = EVENT_PUTS }

abbrev pub nothing_at_hand : CacheValue
nothing_at_hand = record { items = []; room = WINDOW_ITEMS }

pub first_is_at_work : (tables : Tables) (cache : CacheValue) (cells : List Cell) (truths : List Bool) (inserted : InsertedValue) (lines : ℕ) (places : ℕ × ℕ) → IsRunnable tables
    → cache ≡ nothing_at_hand → cells ≡ first_cells 0 (length (tab tables).stores) → truths ≡ truths_at (match_state_with tables cells)
    → inserted ≡ nothing_inserted → lines ≡ EVENT_ENTRIES → HasPlaces tables places → IsAtWork tables cache cells truths inserted lines places
first_is_at_work tables cache cells truths inserted lines places can empty are right nothing noted has = record {
  runnable = can;
  few = omega (arith, ap (λ (value : CacheValue). length value.items) empty);
  stores = ap length are ∙ first_cells_count 0 (length (tab tables).stores);
  others = others_at_first tables cells (length (tab tables).stores) are;
  right = right;
  text = omega (arith, ap (λ (value : InsertedValue). length value.text) nothing);
  room = record {
    items = ap (λ (value : CacheValue). value.room) empty;
    text = ap (λ (value : InsertedValue). value.room) nothing;
    noted = noted;
  };
  places = has;
}

-- a copy with its own space
pub copy_is_at_work : (tables same : Tables) (cache kept : CacheValue) (cells values : List Cell) (truths right : List Bool) (inserted text : InsertedValue) (lines noted : ℕ) (places found : ℕ × ℕ)
    → IsAtWork tables cache cells truths inserted lines places → same ≡ tables → kept ≡ record cache { room = WINDOW_ITEMS } → values ≡ cells → right ≡ truths
    → text ≡ inserted → noted ≡ EVENT_ENTRIES → HasPlaces tables found → IsAtWork same kept values right text noted found
copy_is_at_work tables same cache kept cells values truths right inserted text lines noted places found h is items are rights puts room has =
    let whole : kept ≡ cache = items ∙ (λ i. record cache { room = sym h.room.items i }) in
    let entries : noted ≡ lines = room ∙ sym h.room.noted in
    let stores : found ≡ places = has ∙ sym h.places in
    transport (λ i. IsAtWork (sym is i) (sym whole i) (sym are i) (sym rights i) (sym puts i) (sym entries i) (sym stores i)) h

pub first_values : (tables : Tables) (cells : List Cell) → cells ≡ first_cells 0 (length (tab tables).stores) → engine_with tables [] cells [] [] ≡ first_engine tables
first_values tables cells are =
    let stores : List StoreMeaning = (tab tables).stores in
    λ i. record (first_engine tables) {
      current = (ap (option_values stores) are ∙ first_option_values stores) i;
      saved = (ap (option_saves stores) are ∙ first_option_saves stores) i;
    }

-- the number at an index of a list of numbers
pub number_there : (numbers : List (Option ℕ)) (n : ℕ) (d : Option ℕ) → n < length numbers → option_flatten (slice_get numbers n) ≡ get_or numbers n d
number_there numbers n d within = ap (λ (number : Option (Option ℕ)). option_flatten number) (slice_get-get_or numbers n d within)

-- if the host sets the store of an option to a text, the engine has the option's new values
by_state : (option : Option ℕ) (value : List Element) (engine : EngineState) (state : State) → state.current ≡ engine.current → state.saved ≡ engine.saved
    → record engine { current = (set_option option value state).current; saved = (set_option option value state).saved } ≡ with_option option value engine
by_state None value engine state current saved = λ i. record engine { current = current i; saved = saved i }
by_state (Some option) value engine state current saved =
    λ i. record engine { current = slice_set (current i) option value; saved = slice_set (saved i) option (Some value) }

pub host_sets_engine : (tables : Tables) (context : List Item) (cells after : List Cell) (inserted chosen : List ℕ) (n : ℕ) (name text : List ℕ) (engine : EngineState)
    → n < length cells → after ≡ changed n (host_cell text) cells → engine_with tables context cells inserted chosen ≡ engine
    → option_number (tab engine.tables).stores (Numbered n) ≡ option_named name engine
    → engine_with tables context after inserted chosen ≡ set_by_host name text engine
host_sets_engine tables context cells after inserted chosen n name text engine few set is found =
    let stores : List StoreMeaning = (tab tables).stores in
    let number : Option ℕ = option_number stores (Numbered n) in
    let value : List Element = map Char text in
    let before : EngineState = engine_with tables context cells inserted chosen in
    let state : State = holding stores cells (first_state (tab tables)) in
    let follows = (calls_follow stores cells n few).host text (first_state (tab tables)) in
    let same : number ≡ option_named name engine = ap (λ (e : EngineState). option_number (tab e.tables).stores (Numbered n)) is ∙ found in
    ap (λ (these : List Cell). engine_with tables context these inserted chosen) set
    ∙ (ap (λ (s : State). record before { current = s.current; saved = s.saved }) (sym follows)
    ∙ (by_state number value before state refl refl
    ∙ (λ i. with_option (same i) value (is i))))

-- the same is true for each list of cells that holds the same values as the changed cells
pub values_set_engine : (tables : Tables) (context : List Item) (cells after : List Cell) (inserted chosen : List ℕ) (n : ℕ) (name text : List ℕ) (engine : EngineState)
    → n < length cells → HoldTheSame (tab tables).stores after (changed n (host_cell text) cells) → engine_with tables context cells inserted chosen ≡ engine
    → option_number (tab engine.tables).stores (Numbered n) ≡ option_named name engine
    → engine_with tables context after inserted chosen ≡ set_by_host name text engine
values_set_engine tables context cells after inserted chosen n name text engine few same is found =
    (λ i. record (engine_with tables context after inserted chosen) { current = same.current i; saved = same.saved i })
    ∙ host_sets_engine tables context cells (changed n (host_cell text) cells) inserted chosen n name text engine few refl is found

-- The values of options by the stores that are options.
use Rattle.std.proofs.Common.{◌≡◌, ℕ, List, ◌<◌, ◌++◌, get_or, Bool, true, false, Option, Some, [], ◌∷◌, map, sym, ◌∙◌, ap, refl, append-nil}
use Rattle.std.proofs.lemmas.Option.{slice_get-get_or, slice_get-map}
use Rattle.std.proofs.lemmas.Bool.{eq-eqb, eqb-true}
use Rattle.std.specs.Prelude.{◌&&◌, if◌then◌else◌, length, slice_get, unwrap_or, option_map, option_and_then}
use Rattle.std.specs.Option.{option_flatten}
use Rattle.kmn_base.specs.declared.items.Element.{Element}
use Rattle.kmn_base.specs.declared.items.Element.TheVariants as element
use Rattle.option_store.specs.declared.options.Cell.{Cell}
use Rattle.option_store.specs.declared.options.Held.{Held}
use Rattle.option_store.specs.declared.options.Held.TheVariants.{Store, Host}
use Rattle.option_store.specs.Cells.{cell_at, current_value, held_value, saved_value}
use Rattle.option_store.specs.Meaning.{option_values}
use Rattle.rule_model.specs.declared.tables.Tables.{Tables}
use Rattle.rule_model.specs.Content.{content, option_number, options_before}
use Rattle.rule_model.specs.Keyboard.{Numbered, StoreMeaning, stated}
use Rattle.rule_model.specs.Match.{same_element, same_value}
use Rattle.rule_model.specs.Tab.{tab}
use Rattle.rule_model.proofs.PlainOptions.{content_of_option}
use Rattle.rule_matching.specs.MatchState.{saved_of}
use Rattle.rule_matching.proofs.StoreContents as contents
use Rattle.rule_engine.specs.Engine.{EngineState}
use Rattle.play_session.specs.declared.changes.Change.{Change}
use Rattle.play_session.specs.Changes.{Values, are_of_one_store, current_at, saved_at, is_newly_saved, current_change, saved_change, values_in, values_now}

-- if a store is an option, its content is the value of the option
pub content_is_value : (stores : List StoreMeaning) (values : List (List Element)) (n option : ℕ) → option_number stores (Numbered n) ≡ Some option
    → content stores values (Numbered n) ≡ unwrap_or (slice_get values option) []
content_is_value stores values n option is = content_of_option values (options_before n stores) option (slice_get stores n) is

pub saved_is_value : (stores : List StoreMeaning) (saves : List (Option (List Element))) (n option : ℕ) → option_number stores (Numbered n) ≡ Some option
    → saved_of stores saves n ≡ option_flatten (slice_get saves option)
saved_is_value stores saves n option is = ap (option_and_then (λ (o : ℕ). option_flatten (slice_get saves o))) is

-- each value is the same as itself, element by element
same_element_itself : (e : Element) → same_element e e ≡ true
same_element_itself (element.Char c) = eq-eqb c c refl
same_element_itself (element.Mark m) = eq-eqb m m refl
same_element_itself (element.Key flags code) = λ i. eq-eqb flags flags refl i && eq-eqb code code refl i

pub same_as_itself : (value : List Element) → same_value value value ≡ true
same_as_itself [] = refl
same_as_itself (e ∷ value) = ap (λ (t : Bool). t && same_value value value) (same_element_itself e) ∙ same_as_itself value

-- if two values are held as the elements of the same store, they are the same
held_in_one : (elements : List (List Element)) (a b : Held) (text other : List ℕ) → are_of_one_store a b ≡ true
    → same_value (held_value elements text a) (held_value elements other b) ≡ true
held_in_one elements (Store a) (Store b) text other one =
    ap (λ (n : ℕ). same_value (unwrap_or (slice_get elements a) []) (unwrap_or (slice_get elements n) [])) (sym (eqb-true a b one))
    ∙ same_as_itself (unwrap_or (slice_get elements a) [])
held_in_one elements (Store a) Host text other one = absurd (cc)
held_in_one elements Host b text other one = absurd (cc)

-- if the current value of an option is held as the elements of the same store as before, the option has the value that it had
pub held_as_before : (engine : EngineState) (cells : List Cell) (was : Cell) (store option : ℕ)
    → option_number (tab engine.tables).stores (Numbered store) ≡ Some option → store < length cells
    → option_values (tab engine.tables).stores cells ≡ engine.current
    → are_of_one_store was.current (cell_at cells store).current ≡ true
    → true ≡ same_value (current_value (stated (tab engine.tables).stores) was) (current_at (values_now engine) option)
held_as_before engine cells was store option is within values one =
    let stores : List StoreMeaning = (tab engine.tables).stores in
    let has : held_value (stated stores) (cell_at cells store).text (cell_at cells store).current ≡ current_at (values_now engine) option
    = contents.current_is_content engine.tables cells store option within is
    ∙ ap (λ (current : List (List Element)). content stores current (Numbered store)) values
    ∙ content_is_value stores engine.current store option is in
    sym (ap (same_value (current_value (stated stores) was)) (sym has)
    ∙ held_in_one (stated stores) was.current (cell_at cells store).current was.text (cell_at cells store).text one)

-- the value that the cell of an option denotes is the value of the option
module _ {X : Type 0} (value : Cell → X) (cells : List Cell) (option : ℕ) (d : Cell) (within : option < length cells) where
  value_of_cell : slice_get (map value cells) option ≡ Some (value (get_or cells option d))
  value_of_cell = slice_get-map value cells option ∙ ap (option_map value) (slice_get-get_or cells option d within)

pub cell_has_value : (tables : Tables) (cells : List Cell) (option : ℕ) (d : Cell) → option < length cells
    → current_at (values_in tables cells) option ≡ current_value (stated (tab tables).stores) (get_or cells option d)
cell_has_value tables cells option d within =
    ap (λ (value : Option (List Element)). unwrap_or value []) (value_of_cell (current_value (stated (tab tables).stores)) cells option d within)

pub cell_has_saved : (tables : Tables) (cells : List Cell) (option : ℕ) (d : Cell) → option < length cells
    → saved_at (values_in tables cells) option ≡ saved_value (stated (tab tables).stores) (get_or cells option d)
cell_has_saved tables cells option d within =
    ap option_flatten (value_of_cell (saved_value (stated (tab tables).stores)) cells option d within)

-- if a value is the same as before, it has no change
module _ (before after : Values) (store option : ℕ) (changes : List Change) where
  pub current_stays : (was now : List Element) → was ≡ current_at before option → now ≡ current_at after option → true ≡ same_value was now
      → changes ≡ changes ++ current_change before after store option
  current_stays was now before_is after_is same =
      let stays : same_value (current_at before option) (current_at after option) ≡ true = (λ i. same_value (sym before_is i) (sym after_is i)) ∙ sym same in
      sym (ap (λ (t : Bool). changes ++ (if t then [] else record { store = store; saved = false } ∷ [])) stays ∙ append-nil changes)

  pub saved_stays : (was now : Option (List Element)) → was ≡ saved_at before option → now ≡ saved_at after option → false ≡ is_newly_saved was now
      → changes ≡ changes ++ saved_change before after store option
  saved_stays was now before_is after_is same =
      let stays : is_newly_saved (saved_at before option) (saved_at after option) ≡ false = (λ i. is_newly_saved (sym before_is i) (sym after_is i)) ∙ sym same in
      sym (ap (λ (t : Bool). changes ++ (if t then record { store = store; saved = true } ∷ [] else [])) stays ∙ append-nil changes)

-- The changes of a step are those that a transcript prints.
use Rattle.std.proofs.Common.{◌≡◌, ℕ, suc, ◌+◌, ◌<◌, Bool, true, false, not, List, [], ◌∷◌, ◌++◌, length, map, drop, Option, Some, None, refl, sym, ap, ◌∙◌, arith, append_assoc, append-nil, length-set}
use Rattle.std.specs.Prelude.{if◌then◌else◌, position, slice_get, unwrap_or, flat_map}
use Rattle.std.specs.Option.{option_flatten}
use Rattle.std.proofs.lemmas.List.{drop_more, length-map}
use Rattle.std.proofs.lemmas.Option.{unwrap_or-slice_get, slice_get-get_or}
use Rattle.std.proofs.lemmas.Grind.{flat_map-append}
use Rattle.kmn_base.specs.declared.items.Element.{Element}
use Rattle.kmn_base.specs.declared.items.Element.TheVariants as element
use Rattle.kmn_base.specs.declared.events.Event.{Event}
use Rattle.kmn_base.specs.declared.events.Event.TheVariants as event
use Rattle.kmn_base.specs.declared.keys.KeyPress.{KeyPress}
use Rattle.virtual_keys.specs.Fits.{is_plain}
use Rattle.rule_model.specs.declared.event_state.EventState.{EventState}
use Rattle.rule_model.specs.declared.tables.Tables.{Tables}
use Rattle.rule_model.specs.Content.{option_number}
use Rattle.rule_model.specs.Event.{State, happening, by_editor, after_press, set_option, has_name}
use Rattle.rule_model.specs.Keyboard.{StoreMeaning, Numbered, Keyboard}
use Rattle.rule_model.specs.KeyEvent.{begin_event, after_key}
use Rattle.rule_model.specs.Match.{same_value}
use Rattle.rule_model.specs.Plain.{option_numbers}
use Rattle.rule_model.specs.Tab.{tab}
use Rattle.rule_model.specs.Trace.{options_of}
use Rattle.rule_model.specs.Transcript as transcript
use Rattle.rule_model.specs.Transcript.{value_line}
use Rattle.rule_model.proofs.PlainCounts.{after_key-counts}
use Rattle.rule_model.proofs.PlainOptions.{number_found, content_of_option}
use Rattle.rule_engine.specs.Engine.{name_in, name_of}
use Rattle.play_session.specs.declared.changes.Change.{Change}
use Rattle.play_session.specs.Changes.{Values, current_at, saved_at, is_newly_saved, current_change, saved_change, changes_from}
use Rattle.play_session.specs.Printed.{change_line, change_lines, IsSession, printed_changes}
use Rattle.play_session.specs.Session.{SessionState, first_session, after_step, values_of}

-- ---- an event keeps the options of a state

record SameOptions (before after : State) : Type 0 where
  names : after.names ≡ before.names
  current : length after.current ≡ length before.current
  saved : length after.saved ≡ length before.saved

same : (state : State) → SameOptions state state
same state = record { names = refl; current = refl; saved = refl }

editor_keeps : (plain : Bool) (press : KeyPress) (state : State) → is_plain press ≡ plain → SameOptions state (by_editor press state)
editor_keeps true press state is = rw is (record { names = refl; current = refl; saved = refl })
editor_keeps false press state is = rw is (record { names = refl; current = refl; saved = refl })

press_keeps : (pass : Bool) (press : KeyPress) (s : EventState) (state : State) → s.pass ≡ pass → length s.current ≡ length state.current → length s.saved ≡ length state.saved
    → SameOptions state (after_press press s state)
press_keeps true press s state is current saved =
    let acted : State = record state { left = s.left; current = s.current; saved = s.saved } in
    let kept : SameOptions acted (by_editor press acted) = editor_keeps (is_plain press) press acted refl in
    rw is (record { names = kept.names; current = kept.current ∙ current; saved = kept.saved ∙ saved })
press_keeps false press s state is current saved = rw is (record { names = refl; current = current; saved = saved })

setting_keeps : (option : Option ℕ) (value : List Element) (state : State) → SameOptions state (set_option option value state)
setting_keeps None value state = same state
setting_keeps (Some option) value state =
    record { names = refl; current = length-set state.current option value; saved = length-set state.saved option (Some value) }

event_keeps : (kb : Keyboard) (state : State) (event : Event) → SameOptions state (happening kb state event).after
unfolding happening
event_keeps kb state (event.Key press) =
    let begun : EventState = begin_event state.left state.current state.saved in
    let counts = after_key-counts kb press begun in
    press_keeps (after_key kb press begun).pass press (after_key kb press begun) state refl counts.current counts.saved
event_keeps kb state (event.Setting name value) = setting_keeps (position (has_name name) state.names) (map element.Char value) state
event_keeps kb state (event.Caret place) = record { names = refl; current = refl; saved = refl }
event_keeps kb state (event.Edit from to text) = record { names = refl; current = refl; saved = refl }

pub sessions_begin : (tables : Tables) → IsSession (first_session tables)
sessions_begin tables =
    record { names = refl; current = length-map (options_of (tab tables).stores) _; saved = length-map (options_of (tab tables).stores) _ }

pub sessions_go_on : (session : SessionState) (event : Event) → IsSession session → IsSession (after_step session event)
sessions_go_on session event is =
    let kept = event_keeps (tab session.tables) session.state event in
    record { names = kept.names ∙ is.names; current = kept.current ∙ is.current; saved = kept.saved ∙ is.saved }

-- ---- the lines of changes

module _ (front : List ℕ) (line : Change → List ℕ) (change : Change) where
  line_unless : (test : Bool) → flat_map line (if test then [] else change ∷ []) ≡ (if test then [] else line change)
  line_unless true = refl
  line_unless false = append-nil (line change)

  line_of_saved : (name : List ℕ) (before after : Option (List Element)) → line change ≡ front ++ value_line true name (unwrap_or after [])
      → flat_map line (if is_newly_saved before after then change ∷ [] else []) ≡ transcript.saved_change front name before after
  line_of_saved name before None is = refl
  line_of_saved name None (Some after) is = append-nil (line change) ∙ is
  line_of_saved name (Some before) (Some after) is = elim (same_value before after) as (λ t. flat_map line (if not t then change ∷ [] else []) ≡ (if t then [] else front ++ value_line true name after)) [
    | true ↦ refl
    | false ↦ append-nil (line change) ∙ is
  ]

-- if a position is in a list, the rest of the list from there begins with the value at that position
current_left : (values : List (List Element)) (k : ℕ) → k < length values → drop k values ≡ unwrap_or (slice_get values k) [] ∷ drop (k + 1) values
current_left values k within = drop_more values k [] within ∙ ap (λ value. value ∷ drop (k + 1) values) (sym (unwrap_or-slice_get values k []))

saved_left : (saves : List (Option (List Element))) (k : ℕ) → k < length saves → drop k saves ≡ option_flatten (slice_get saves k) ∷ drop (k + 1) saves
saved_left saves k within = drop_more saves k None within ∙ ap (λ saved. saved ∷ drop (k + 1) saves) (sym (ap option_flatten (slice_get-get_or saves k None within)))

module _ (front : List ℕ) (session : SessionState) (before : Values) where
  abbrev pub stores : List StoreMeaning
  stores = (tab session.tables).stores

  abbrev pub after : Values
  after = values_of session.state

  -- the number of options from one of them on, which is the same for each list of values
  pub record HasOptions (k count : ℕ) : Type 0 where
    pub current : length before.current ≡ k + count
    pub saved : length before.saved ≡ k + count
    pub current_after : length after.current ≡ k + count
    pub saved_after : length after.saved ≡ k + count

  -- the remaining stores: their names and their option numbers
  record IsLeft (n k : ℕ) (rest : List StoreMeaning) : Type 0 where
    names : (i : ℕ) → name_of session.tables (n + i) ≡ name_in (slice_get rest i)
    numbers : (i : ℕ) → option_number stores (Numbered (n + i)) ≡ option_flatten (slice_get (option_numbers k rest) i)

  abbrev pub lines_left : ℕ → List StoreMeaning → List ℕ
  lines_left k rest = transcript.changes front (map (λ (store : StoreMeaning). store.name) (options_of rest)) (drop k before.current) (drop k before.saved) (drop k after.current) (drop k after.saved)

  abbrev Printed : ℕ → ℕ → List StoreMeaning → Type 0
  Printed n k rest = lines_left k rest ≡ flat_map (change_line front session) (changes_from before after n (option_numbers k rest))

  -- the lines of one option, followed by the lines of the later options
  option_printed : (n k : ℕ) (name : List ℕ) (numbers : List (Option ℕ)) → name_of session.tables n ≡ name → option_number stores (Numbered n) ≡ Some k
      → transcript.current_change front name (current_at before k) (current_at after k)
      ++ (transcript.saved_change front name (saved_at before k) (saved_at after k) ++ flat_map (change_line front session) (changes_from before after (n + 1) numbers))
      ≡ flat_map (change_line front session) (changes_from before after n (Some k ∷ numbers))
  option_printed n k name numbers named number =
      let line : Change → List ℕ = change_line front session in
      let rest : List Change = changes_from before after (n + 1) numbers in
      let current : Change = record { store = n; saved = false } in
      let saved : Change = record { store = n; saved = true } in
      let current_line : line current ≡ front ++ value_line false name (current_at after k)
      = λ i. front ++ value_line false (named i) (content_of_option after.current _ k _ number i) in
      let saved_line : line saved ≡ front ++ value_line true name (unwrap_or (saved_at after k) [])
      = λ i. front ++ value_line true (named i) (unwrap_or (saved_by (number i)) []) in
      let of_current : flat_map line (current_change before after n k) ≡ transcript.current_change front name (current_at before k) (current_at after k)
      = line_unless front line current (same_value (current_at before k) (current_at after k))
      ∙ ap (λ (l : List ℕ). if same_value (current_at before k) (current_at after k) then [] else l) current_line in
      let of_saved : flat_map line (saved_change before after n k) ≡ transcript.saved_change front name (saved_at before k) (saved_at after k)
      = line_of_saved front line saved name (saved_at before k) (saved_at after k) saved_line in
      sym (flat_map-append line (current_change before after n k ++ saved_change before after n k) rest
      ∙ ap (λ (l : List ℕ). l ++ flat_map line rest) (flat_map-append line (current_change before after n k) (saved_change before after n k) ∙ (λ i. of_current i ++ of_saved i))
      ∙ append_assoc (transcript.current_change front name (current_at before k) (current_at after k)) (transcript.saved_change front name (saved_at before k) (saved_at after k)) (flat_map line rest))
    where
      saved_by : Option ℕ → Option (List Element)
      saved_by None = None
      saved_by (Some option) = option_flatten (slice_get after.saved option)

  store_printed : (n k : ℕ) (name : List ℕ) (elements : List Element) (is_option is_system : Bool) (rest : List StoreMeaning)
      → ((m : ℕ) → HasOptions m (length (options_of rest)) → IsLeft (n + 1) m rest → Printed (n + 1) m rest)
      → let store : StoreMeaning = record { name = name; elements = elements; is_option = is_option; is_system = is_system } in
      HasOptions k (length (options_of (store ∷ rest))) → IsLeft n k (store ∷ rest) → Printed n k (store ∷ rest)
  store_printed n k name elements true is_system rest printed has left =
      let behind : Printed (n + 1) (k + 1) rest = printed (k + 1)
      (record { current = omega (arith, has.current); saved = omega (arith, has.saved); current_after = omega (arith, has.current_after); saved_after = omega (arith, has.saved_after) })
      (record {
        names = λ i. ap (name_of session.tables) (next i) ∙ left.names (suc i);
        numbers = λ i. ap (λ m. option_number stores (Numbered m)) (next i) ∙ left.numbers (suc i);
      }) in
      let here : n + 0 ≡ n = omega arith in
      (λ i. transcript.changes front (name ∷ map (λ (store : StoreMeaning). store.name) (options_of rest))
      (current_left before.current k (omega (arith, has.current)) i) (saved_left before.saved k (omega (arith, has.saved)) i)
      (current_left after.current k (omega (arith, has.current_after)) i) (saved_left after.saved k (omega (arith, has.saved_after)) i))
      ∙ ap (λ (l : List ℕ). transcript.current_change front name (current_at before k) (current_at after k) ++ (transcript.saved_change front name (saved_at before k) (saved_at after k) ++ l)) behind
      ∙ option_printed n k name (option_numbers (k + 1) rest)
      (ap (name_of session.tables) (sym here) ∙ left.names 0) (ap (λ m. option_number stores (Numbered m)) (sym here) ∙ left.numbers 0)
    where
      next : (i : ℕ) → n + 1 + i ≡ n + suc i
      next i = omega arith
  store_printed n k name elements false is_system rest printed has left =
      printed k has
      (record {
        names = λ i. ap (name_of session.tables) (next i) ∙ left.names (suc i);
        numbers = λ i. ap (λ m. option_number stores (Numbered m)) (next i) ∙ left.numbers (suc i);
      })
    where
      next : (i : ℕ) → n + 1 + i ≡ n + suc i
      next i = omega arith

  printed_from : (n k : ℕ) (rest : List StoreMeaning) → HasOptions k (length (options_of rest)) → IsLeft n k rest → Printed n k rest
  printed_from n k [] has left = refl
  printed_from n k (store ∷ rest) has left =
      store_printed n k store.name store.elements store.is_option store.is_system rest (λ m. printed_from (n + 1) m rest) has left

  pub all_printed : HasOptions 0 (length (options_of stores)) → lines_left 0 stores ≡ flat_map (change_line front session) (changes_from before after 0 (option_numbers 0 stores))
  all_printed has = printed_from 0 0 stores has
      (record {
        names = λ i. ap (name_of session.tables) (none i);
        numbers = λ i. ap (λ m. option_number stores (Numbered m)) (none i) ∙ sym (number_found stores i);
      })
    where
      none : (i : ℕ) → 0 + i ≡ i
      none i = omega arith

pub changes_are_printed : (front : List ℕ) (session : SessionState) (event : Event) → IsSession session → printed_changes front session.state (after_step session event).state ≡ change_lines front (after_step session event)
changes_are_printed front session event is =
    let next : IsSession (after_step session event) = sessions_go_on session event is in
    let count : ℕ = length (options_of (tab session.tables).stores) in
    let all : count ≡ 0 + count = omega arith in
    ap (λ (names : List (List ℕ)). transcript.changes front names session.state.current session.state.saved (after_step session event).state.current (after_step session event).state.saved) is.names
    ∙ all_printed front (after_step session event) (values_of session.state)
    (record { current = is.current ∙ all; saved = is.saved ∙ all; current_after = next.current ∙ all; saved_after = next.saved ∙ all })

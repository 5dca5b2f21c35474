-- What a plain state means after a step.
use Rattle.std.proofs.Common.{◌≡◌, ◌+◌, ℕ, true, false, List, length, map, Option, Some, None, refl, sym, ap, subst, ◌∙◌, length-set}
use Rattle.std.specs.Prelude.{if◌then◌else◌, position}
use Rattle.kmn_base.specs.declared.items.Item.{Item}
use Rattle.kmn_base.specs.declared.items.Element.{Element}
use Rattle.kmn_base.specs.declared.items.Element.TheVariants as element
use Rattle.kmn_base.specs.declared.keys.KeyPress.{KeyPress}
use Rattle.kmn_base.specs.declared.events.Outcome.{Outcome}
use Rattle.rule_model.specs.declared.event_state.EventState.{EventState}
use Rattle.plain_event.specs.declared.state.PlainState.{PlainState}
use Rattle.rule_model.specs.declared.tables.Tables.{Tables}
use Rattle.rule_model.specs.Keyboard.{StoreMeaning}
use Rattle.rule_model.specs.KeyEvent.{begin_event, after_key, outcome_of}
use Rattle.rule_model.specs.Event.{State, has_name, no_outcome, by_editor, happening_of, key_event, only_state, set_option, setting_event}
use Rattle.rule_model.specs.Tab.{tab, tab_options}
use Rattle.rule_model.specs.Plain.{option_numbers, of_options, option_names}
use Rattle.rule_model.proofs.SystemOptions.{length-all_options}
use Rattle.rule_model.proofs.PlainCounts.{SameCounts, after_key-counts}
use Rattle.plain_event.specs.PlainStates.{of_others, state_of, acted, given, KeepsOthers, IsMadeBy, IsStateOf}
use Rattle.plain_event.proofs.SpreadValues.{spread_options, spread_others, length-spread}

count_of_numbers : (tables : Tables) → length (option_numbers 0 (tab tables).stores) ≡ length tables.stores + 2
unfolding tab
count_of_numbers tables = length-all_options (tab_options tables) tables.stores

-- the state with which an event begins
abbrev begun : Tables → PlainState → EventState
begun tables state = begin_event state.left (of_options (tab tables).stores state.current) (of_options (tab tables).stores state.saved)

module _ (tables : Tables) (state : PlainState) (is : IsStateOf tables state) (s : EventState) (counts : SameCounts (begun tables state) s) (outcome : Outcome) where
  acted_means : state_of tables (acted tables s outcome state) ≡ record (state_of tables state) { left = s.left; current = s.current; saved = s.saved }
  acted_means = λ j. record (state_of tables state) {
    left = s.left;
    current = spread_options (tab tables).stores state.current s.current counts.current j;
    saved = spread_options (tab tables).stores state.saved s.saved counts.saved j;
  }

  acted_current : KeepsOthers (tab tables).stores state.current (acted tables s outcome state).current
  acted_current = record {
    others = spread_others 0 (tab tables).stores state.current s.current;
    count = length-spread (option_numbers 0 (tab tables).stores) state.current s.current (is.current ∙ sym (count_of_numbers tables));
  }

  acted_saved : KeepsOthers (tab tables).stores state.saved (acted tables s outcome state).saved
  acted_saved = record {
    others = spread_others 0 (tab tables).stores state.saved s.saved;
    count = length-spread (option_numbers 0 (tab tables).stores) state.saved s.saved (is.saved ∙ sym (count_of_numbers tables));
  }

-- if values keep the others, so do all values that are equal to them
keeps_along : {X : Type 0} (stores : List StoreMeaning) (old new other : List X) → other ≡ new → KeepsOthers stores old new → KeepsOthers stores old other
keeps_along stores old new other e k = record { others = ap (of_others stores) e ∙ k.others; count = ap length e ∙ k.count }

module _ (tables : Tables) (state : PlainState) (is : IsStateOf tables state) (press : KeyPress) (s0 s : EventState) (old : List Item) (outcome : Outcome)
    (begins : s0 ≡ begun tables state) (acts : s ≡ after_key (tab tables) press s0) (old_is : old ≡ state.left) (outcome_is : outcome ≡ outcome_of old s) where
  counts : SameCounts (begun tables state) s
  counts = subst (λ a. SameCounts (begun tables state) a) (sym (acts ∙ ap (after_key (tab tables) press) begins)) (after_key-counts (tab tables) press (begun tables state))

  abbrev acted_state : State
  acted_state = record (state_of tables state) { left = s.left; current = s.current; saved = s.saved }

  happens : happening_of press s (state_of tables state) ≡ key_event (tab tables) press (state_of tables state)
  happens = ap (λ a. happening_of press a (state_of tables state)) (acts ∙ ap (after_key (tab tables) press) begins)

  outcome_seen : outcome ≡ outcome_of state.left s
  outcome_seen = outcome_is ∙ ap (λ l. outcome_of l s) old_is

  -- if a key press was not passed on, the state after it is the result of the key event
  pub key_done : (after : PlainState) → after ≡ acted tables s outcome state → s.pass ≡ false → IsMadeBy tables state (key_event (tab tables) press (state_of tables state)) after
  key_done after is_acted pass =
      subst (λ h. IsMadeBy tables state h after) happens (record {
        after = ap (state_of tables) is_acted ∙ acted_means tables state is s counts outcome ∙ (λ j. if (sym pass) j then by_editor press acted_state else acted_state);
        outcome = ap (λ (p : PlainState). p.last) is_acted ∙ outcome_seen;
        current = keeps_along _ _ _ _ (ap (λ (p : PlainState). p.current) is_acted) (acted_current tables state is s counts outcome);
        saved = keeps_along _ _ _ _ (ap (λ (p : PlainState). p.saved) is_acted) (acted_saved tables state is s counts outcome);
      })

  -- if a key press was passed on and the editor handled it, the state after it is the result of the key event
  pub key_passed : (before after : PlainState) → before ≡ acted tables s outcome state → s.pass ≡ true → state_of tables after ≡ by_editor press (state_of tables before)
      → after ≡ record before { left = after.left; right = after.right } → IsMadeBy tables state (key_event (tab tables) press (state_of tables state)) after
  key_passed before after is_acted pass edits others =
      let passed = ap (state_of tables) is_acted ∙ acted_means tables state is s counts outcome in
      subst (λ h. IsMadeBy tables state h after) happens (record {
        after = edits ∙ ap (by_editor press) passed ∙ (λ j. if (sym pass) j then by_editor press acted_state else acted_state);
        outcome = ap (λ (p : PlainState). p.last) others ∙ ap (λ (p : PlainState). p.last) is_acted ∙ outcome_seen;
        current = keeps_along _ _ _ _ (ap (λ (p : PlainState). p.current) others ∙ ap (λ (p : PlainState). p.current) is_acted) (acted_current tables state is s counts outcome);
        saved = keeps_along _ _ _ _ (ap (λ (p : PlainState). p.saved) others ∙ ap (λ (p : PlainState). p.saved) is_acted) (acted_saved tables state is s counts outcome);
      })

given-counts : (option : Option ℕ) (value : List Element) (s : EventState) → SameCounts s (given option value s)
given-counts None value s = record { current = refl; saved = refl }
given-counts (Some option) value s = record { current = length-set s.current option value; saved = length-set s.saved option (Some value) }

given_means : (tables : Tables) (state : PlainState) (option : Option ℕ) (value : List Element)
    → let s = given option value (begun tables state) in record (state_of tables state) { left = s.left; current = s.current; saved = s.saved } ≡ set_option option value (state_of tables state)
given_means tables state None value = refl
given_means tables state (Some option) value = refl

-- if an option is set by its name, the state after it is the result of the option change
pub option_given : (tables : Tables) (state : PlainState) (is : IsStateOf tables state) (name value : List ℕ) (option : Option ℕ) (s0 s : EventState) (outcome : Outcome) (after : PlainState)
    → s0 ≡ begun tables state → option ≡ position (has_name name) (option_names (tab tables).stores) → s ≡ given option (map element.Char value) s0 → outcome ≡ no_outcome → after ≡ acted tables s outcome state
    → IsMadeBy tables state (only_state (setting_event name value (state_of tables state))) after
option_given tables state is name value option s0 s outcome after begins found gives outcome_is is_acted =
    let chars = map element.Char value in
    let same : s ≡ given option chars (begun tables state) = gives ∙ ap (given option chars) begins in
    let counts = subst (λ a. SameCounts (begun tables state) a) (sym same) (given-counts option chars (begun tables state)) in
    record {
      after = ap (state_of tables) is_acted ∙ acted_means tables state is s counts outcome
          ∙ ap (λ (a : EventState). record (state_of tables state) { left = a.left; current = a.current; saved = a.saved }) same
          ∙ given_means tables state option chars ∙ ap (λ o. set_option o chars (state_of tables state)) found;
      outcome = ap (λ (p : PlainState). p.last) is_acted ∙ outcome_is;
      current = keeps_along _ _ _ _ (ap (λ (p : PlainState). p.current) is_acted) (acted_current tables state is s counts outcome);
      saved = keeps_along _ _ _ _ (ap (λ (p : PlainState). p.saved) is_acted) (acted_saved tables state is s counts outcome);
    }

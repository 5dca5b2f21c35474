-- The effect of `set`, `save` and `reset` of a cell on the state of the event.
use Rattle.std.proofs.Common.{◌≡◌, ℕ, ◌<◌, List, length, Option, Some, None, sym, ◌∙◌, ap}
use Rattle.kmn_base.specs.declared.items.Element.{Element}
use Rattle.rule_model.specs.declared.event_state.EventState.{EventState}
use Rattle.rule_model.specs.declared.tables.Tables.{Tables}
use Rattle.rule_model.specs.Act.{one_more, set_current, save_current, reset_current}
use Rattle.rule_model.specs.Content.{option_number, elements_at}
use Rattle.rule_model.specs.Keyboard.{Numbered, StoreMeaning}
use Rattle.rule_model.specs.Tab.{tab, elements_of}
use Rattle.option_store.specs.declared.options.Cell.{Cell}
use Rattle.option_store.specs.Cells.{changed, set_cell, save_cell, reset_cell}
use Rattle.option_store.specs.Meaning.{with_values}
use Rattle.option_store.proofs.Meaning.{calls_follow}
use Rattle.rule_engine.specs.Event.{EventValue, keyboard_of}
use Rattle.rule_matching.proofs.StoreContents.{elements_meant}

module _ (tables : Tables) (cells : List Cell) (n : ℕ) (s : EventState) where
  abbrev stores : List StoreMeaning
  stores = (tab tables).stores

  abbrev number : Option ℕ
  number = option_number (tab tables).stores (Numbered n)

  pub set_follows : (v : ℕ) → n < length cells → v < length tables.stores
      → with_values (tab tables).stores (changed n (set_cell v) cells) s
      ≡ set_current (option_number (tab tables).stores (Numbered n)) (elements_of tables.stores v) (with_values (tab tables).stores cells s)
  set_follows v few own =
      sym (ap (λ (value : List Element). set_current number value (with_values stores cells s)) (sym (elements_meant tables v own))
      ∙ (calls_follow stores cells n few).set v s)

  pub reset_follows : n < length cells
      → with_values (tab tables).stores (changed n (reset_cell n) cells) s
      ≡ reset_current (option_number (tab tables).stores (Numbered n)) (elements_at (tab tables).stores (Some n)) (with_values (tab tables).stores cells s)
  reset_follows few = sym ((calls_follow stores cells n few).reset s)

  -- if a store is an option, saving it is counted
  counted : (option : ℕ) → number ≡ Some option
      → with_values stores (changed n save_cell cells) (save_current number s)
      ≡ with_values stores (changed n save_cell cells) (record s { saves = one_more s.saves })
  counted option is = ap (λ (o : Option ℕ). with_values stores (changed n save_cell cells) (save_current o s)) is

  pub save_follows : (option : ℕ) → n < length cells → option_number (tab tables).stores (Numbered n) ≡ Some option
      → with_values (tab tables).stores (changed n save_cell cells) (record s { saves = one_more s.saves })
      ≡ save_current (option_number (tab tables).stores (Numbered n)) (with_values (tab tables).stores cells s)
  save_follows option few is = sym ((calls_follow stores cells n few).save s ∙ counted option is)

-- the effect of `set` and `reset` on an event with these values
module _ (tables : Tables) (lent lines : List ℕ) (cells after : List Cell) (n : ℕ) (s : EventState) (event : EventValue) (few : n < length cells)
    (is : record { tables = tables; lent = lent; state = with_values (tab tables).stores cells s; lines = lines } ≡ event) where
  abbrev event_with : List Cell → EventValue
  event_with these = record { tables = tables; lent = lent; state = with_values (tab tables).stores these s; lines = lines }

  abbrev set_in : ℕ → EventValue → EventValue
  set_in v e = record e { state = set_current (option_number (keyboard_of e).stores (Numbered n)) (elements_of e.tables.stores v) e.state }

  abbrev reset_in : EventValue → EventValue
  reset_in e = record e { state = reset_current (option_number (keyboard_of e).stores (Numbered n)) (elements_at (keyboard_of e).stores (Some n)) e.state }

  pub event_after_set : (v : ℕ) → v < length tables.stores → after ≡ changed n (set_cell v) cells
      → record { tables = tables; lent = lent; state = with_values (tab tables).stores after s; lines = lines }
      ≡ record event { state = set_current (option_number (keyboard_of event).stores (Numbered n)) (elements_of event.tables.stores v) event.state }
  event_after_set v own set =
      ap event_with set
      ∙ (ap (λ (t : EventState). record { tables = tables; lent = lent; state = t; lines = lines }) (set_follows tables cells n s v few own) ∙ ap (set_in v) is)

  pub event_after_reset : after ≡ changed n (reset_cell n) cells
      → record { tables = tables; lent = lent; state = with_values (tab tables).stores after s; lines = lines }
      ≡ record event { state = reset_current (option_number (keyboard_of event).stores (Numbered n)) (elements_at (keyboard_of event).stores (Some n)) event.state }
  event_after_reset reset =
      ap event_with reset
      ∙ (ap (λ (t : EventState). record { tables = tables; lent = lent; state = t; lines = lines }) (reset_follows tables cells n s few) ∙ ap reset_in is)

-- if a store is not an option, setting, saving and resetting it do not change the state
pub nothing_set : (option : Option ℕ) (value : List Element) (s : EventState) → option ≡ None → s ≡ set_current option value s
nothing_set option value s none = sym (ap (λ (o : Option ℕ). set_current o value s) none)

pub nothing_saved : (option : Option ℕ) (s : EventState) → option ≡ None → s ≡ save_current option s
nothing_saved option s none = sym (ap (λ (o : Option ℕ). save_current o s) none)

pub nothing_reset : (option : Option ℕ) (value : List Element) (s : EventState) → option ≡ None → s ≡ reset_current option value s
nothing_reset option value s none = sym (ap (λ (o : Option ℕ). reset_current o value s) none)

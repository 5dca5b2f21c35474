-- What a key press does in Keyman's own engine, and the texts that presses type.
use Rattle.std.specs.Prelude.{ℕ, zero, suc, ◌+◌, Bool, true, not, ◌&&◌, ◌||◌, nat_eq, nat_le, if◌then◌else◌, List, [], ◌∷◌, length, map, slice_get, is_some, Option, Some, None}
use Rattle.kmn_base.specs.declared.items.Item.{Item}
use Rattle.kmn_base.specs.declared.items.Item.TheVariants as item
use Rattle.kmn_base.specs.declared.keys.KeyPress.{KeyPress}
use Rattle.kmn_base.specs.Lists.{characters}
use Rattle.virtual_keys.specs.declared.codes.TheConstants.{K_BKSP}
use Rattle.virtual_keys.specs.Fits.{is_plain}
use Rattle.rule_model.specs.declared.event_state.EventState.{EventState}
use Rattle.rule_model.specs.declared.tables.Group.{Group}
use Rattle.rule_model.specs.declared.tables.Rule.{Rule}
use Rattle.rule_model.specs.declared.tables.Tables.{Tables}
use Rattle.rule_model.specs.Keyboard.{StoreMeaning}
use Rattle.rule_model.specs.KeyEvent.{begin_event}
use Rattle.rule_model.specs.Trace.{options_of, none_saved}
use Rattle.core_meaning.specs.Events.{CoreVersion, is_18, CoreKeyboard, core_keyboard, CoreState, CoreEvent, window_of, core_put, core_back, core_back_marks}
use Rattle.core_meaning.specs.Keys.{core_char}
use Rattle.core_meaning.specs.Options.{core_save_all}
use Rattle.core_meaning.specs.Contexts.{core_content, core_holds, core_takes, Taken, core_choose}
use Rattle.core_meaning.specs.Outputs.{Entering, end_output, core_act_alone, core_done}

-- the key is passed on to the application
abbrev pub pass_on : CoreEvent → CoreEvent
pass_on c = record c { event = record (c.event) { pass = true } }

-- the character at the end of the window is deleted and the marks before it; if there is none, the key is passed on
abbrev pub delete_character : CoreEvent → CoreEvent
delete_character c = (if nat_eq (length c.window) 0 then pass_on else (λ c. core_back_marks (core_back 1 c))) c

-- a press without a character: K_BKSP without control and alt deletes the marks at the end of the window, one character and the
-- marks before it, and each other key is passed on
abbrev pub core_default : KeyPress → CoreEvent → CoreEvent
core_default press c = (if nat_eq press.code K_BKSP && is_plain press then (λ c. delete_character (core_back_marks c)) else pass_on) c

-- the character of a press is put
abbrev pub put_press : Option ℕ → CoreEvent → CoreEvent
put_press None c = c
put_press (Some x) c = core_put (item.Char x) c

-- what happens if no record is taken: in a group with keys, a press without a character does its default; else the nomatch output
-- acts, if there is one; else a group with keys puts the character
abbrev pub core_unmatched : CoreKeyboard → Entering → KeyPress → Group → CoreEvent → CoreEvent
core_unmatched kb enter press group c =
    (if group.using_keys && not (is_some (core_char press)) then core_default press
    else if not (nat_eq (length group.on_nomatch) 0) then core_act_alone kb enter group.on_nomatch
    else if group.using_keys then put_press (core_char press)
    else (λ c. c))
    c

abbrev pub with_places : List ℕ → CoreEvent → CoreEvent
with_places places c = record c { last = record (c.last) { places = places } }

abbrev pub do_taken : CoreKeyboard → Entering → KeyPress → Group → Option Rule → CoreEvent → CoreEvent
do_taken kb enter press group None c = core_unmatched kb enter press group c
do_taken kb enter press group (Some rule) c = core_done kb enter group.on_match rule c

-- the record that is taken in a group
abbrev pub taken_in : CoreKeyboard → KeyPress → Group → CoreEvent → Taken
taken_in kb press group c =
    core_choose (λ (rule : Rule). core_holds kb (core_content kb c.event) c.window rule.context) (core_takes group press) group.rules c.last.places

abbrev pub do_taken_with : CoreKeyboard → Entering → KeyPress → Group → Taken → CoreEvent → CoreEvent
do_taken_with kb enter press group taken c = do_taken kb enter press group taken.0 (with_places taken.1 c)

abbrev pub core_in_group : CoreKeyboard → Entering → KeyPress → Option Group → CoreEvent → CoreEvent
core_in_group kb enter press None c = c
core_in_group kb enter press (Some group) c = do_taken_with kb enter press group (taken_in kb press group c) c

abbrev pub one_more_entered : CoreEvent → CoreEvent
one_more_entered c = record c { event = record (c.event) { entered = c.event.entered + 1 } }

-- a group is entered, with at most this depth of groups in it
abbrev pub core_enter : ℕ → CoreKeyboard → KeyPress → ℕ → CoreEvent → CoreEvent
core_enter zero kb press group c = end_output c
core_enter (suc depth) kb press group c =
    core_in_group kb (core_enter depth kb press) press (slice_get kb.tables.groups group) (one_more_entered c)

-- an event begins with the window of its text and nothing done
abbrev pub core_begin : CoreState → CoreEvent
core_begin state =
    record {
      event = begin_event state.left state.current state.saved;
      window = window_of state.left;
      queued = 0;
      last = state.last;
      to_save = [];
      ended = state.ended;
    }

abbrev pub is_between : ℕ → ℕ → ℕ → Bool
is_between first last code = nat_le first code && nat_le code last

-- whether version 18 expects that a passed key changes the text or moves the caret
abbrev pub resets_context : KeyPress → Bool
resets_context press =
    not (is_plain press) || is_between 0 15 press.code || nat_eq press.code 19 || is_between 21 31 press.code
    || is_between 33 44 press.code || is_between 46 47 press.code || is_between 112 135 press.code

-- the text before the caret after a press: version 18 removes the marks if it passes on such a key
abbrev pub left_after : CoreVersion → KeyPress → EventState → List Item
left_after version press s =
    if is_18 version && s.pass && resets_context press then map item.Char (characters s.left) else s.left

-- the end of an event: the stores that were noted are saved
abbrev pub core_end : CoreKeyboard → KeyPress → CoreEvent → CoreState
core_end kb press c =
    let s = core_save_all kb.stores c.to_save c.event in
    record { left = left_after kb.version press s; current = s.current; saved = s.saved; last = c.last; ended = c.ended }

-- what a press does up to its end: the start group is entered
abbrev pub core_press : CoreKeyboard → KeyPress → CoreState → CoreEvent
core_press kb press state = core_enter 50 kb press kb.tables.start_unicode (core_begin state)

-- the state that a press leaves
abbrev pub core_step : CoreKeyboard → KeyPress → CoreState → CoreState
core_step kb press state = core_end kb press (core_press kb press state)

-- the first state: some characters before the caret, each option with its elements and nothing saved, and the flag that output
-- has ended, which the engine doesn't set
abbrev pub core_first : List StoreMeaning → Bool → List ℕ → CoreState
core_first stores ended text =
    record {
      left = map item.Char text;
      current = map (λ (store : StoreMeaning). store.elements) (options_of stores);
      saved = map none_saved (options_of stores);
      last = record { kept = []; skipped = 0; places = [] };
      ended = ended;
    }

abbrev pub shown : Bool → (CoreState → List (List ℕ × Bool)) → CoreState → List (List ℕ × Bool)
shown passed rest state = (characters state.left, passed) ∷ rest state

abbrev pub shown_end : CoreKeyboard → KeyPress → (CoreState → List (List ℕ × Bool)) → CoreEvent → List (List ℕ × Bool)
shown_end kb press rest c = shown c.event.pass rest (core_end kb press c)

-- the text before the caret after each press from a state on, and whether the press is passed on
abbrev pub core_texts_from : CoreKeyboard → List KeyPress → CoreState → List (List ℕ × Bool)
core_texts_from kb [] state = []
core_texts_from kb (press ∷ presses) state = shown_end kb press (core_texts_from kb presses) (core_press kb press state)

-- the text before the caret after each press, from a first text on, and whether the press is passed on; given whether the flag
-- that output has ended is set at first
unfoldable pub core_texts : CoreVersion → Tables → Bool → List ℕ → List KeyPress → List (List ℕ × Bool)
core_texts version tables ended text presses =
    core_texts_from (core_keyboard version tables) presses (core_first (core_keyboard version tables).stores ended text)

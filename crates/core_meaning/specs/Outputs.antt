-- What the items of an output do in Keyman's own engine.
use Rattle.std.specs.Prelude.{ℕ, ◌+◌, ◌-◌, Bool, true, false, not, ◌&&◌, nat_le, if◌then◌else◌, List, [], ◌∷◌, count_by, slice_get, filter_map, Option, Some, None}
use Rattle.kmn_base.specs.declared.items.Item.TheVariants as item
use Rattle.kmn_base.specs.declared.items.Element.{Element}
use Rattle.rule_model.specs.declared.event_state.EventState.{EventState}
use Rattle.rule_model.specs.declared.tables.Pat.{Pat}
use Rattle.rule_model.specs.declared.tables.Out.{Out}
use Rattle.rule_model.specs.declared.tables.Out.TheVariants as output
use Rattle.rule_model.specs.declared.tables.Rule.{Rule}
use Rattle.rule_model.specs.Keyboard.{Numbered}
use Rattle.rule_model.specs.Patterns.{is_condition}
use Rattle.rule_model.specs.Content.{option_number}
use Rattle.rule_model.specs.Match.{item_of}
use Rattle.rule_model.specs.Act.{one_more, item_list, set_current}
use Rattle.core_meaning.specs.Events.{CoreVersion, is_18, CoreKeyboard, CoreEvent, last_items, core_queue, core_put, core_put_all, core_back}
use Rattle.core_meaning.specs.Options.{note_save, core_reset}
use Rattle.core_meaning.specs.Contexts.{core_content, place_found, begins_with_nul, compared_count}

-- how many groups an event can enter
abbrev pub entries_at_most : ℕ
entries_at_most = 50

-- what entering a group does, by its number
abbrev pub Entering : Type 0
Entering = ℕ → CoreEvent → CoreEvent

abbrev pub end_output : CoreEvent → CoreEvent
end_output c = record c { ended = true }

-- a group is entered, or output ends if 50 groups were entered
abbrev pub core_use : Entering → Entering
core_use enter group c = (if nat_le entries_at_most c.event.entered then end_output else enter group) c

abbrev pub with_event : EventState → CoreEvent → CoreEvent
with_event event c = record c { event = event }

-- the items that stand for elements, which a virtual key doesn't
abbrev pub put_elements : List Element → CoreEvent → CoreEvent
put_elements elements c = core_put_all (filter_map item_of elements) c

abbrev pub element_list : Option Element → List Element
element_list None = []
element_list (Some e) = e ∷ []

-- a beep is queued
abbrev pub beep : CoreEvent → CoreEvent
beep = core_queue (λ c. record c { event = record (c.event) { beeps = one_more c.event.beeps } })

-- what an item of an output does, if it neither enters a group nor ends the output
abbrev pub core_act_one : CoreKeyboard → Out → CoreEvent → CoreEvent
core_act_one kb (output.Char x) c = core_put (item.Char x) c
core_act_one kb (output.Mark m) c = core_put (item.Mark m) c
core_act_one kb (output.Index store offset) c = put_elements (element_list (slice_get (core_content kb c.event (Numbered store)) (place_found c.last.places offset))) c
core_act_one kb output.Context c = core_put_all c.last.kept c
core_act_one kb (output.ContextAt offset) c = core_put_all (item_list (slice_get c.last.kept (offset - 1 - c.last.skipped))) c
core_act_one kb (output.Set store value) c =
    with_event (set_current (option_number kb.stores (Numbered store)) (core_content kb c.event (Numbered value)) c.event) c
core_act_one kb (output.Save store) c = note_save kb.stores store c
core_act_one kb (output.Reset store) c = with_event (core_reset kb store c.event) c
core_act_one kb output.Beep c = beep c
core_act_one kb _ c = c

-- a state, and whether the match output of the group follows
abbrev pub Acted : Type 0
Acted = CoreEvent × Bool

abbrev pub without_match : CoreEvent → Acted
without_match c = (c, false)

-- the rest of an output after a `use`, which is left out if output has ended
abbrev pub behind_use : (CoreEvent → Acted) → CoreEvent → Acted
behind_use rest c = (if c.ended then without_match else rest) c

-- the items of an output act in order, given whether it has used a group; the match output follows if it has used none and not
-- returned
abbrev pub core_act : CoreKeyboard → Entering → List Out → Bool → CoreEvent → Acted
core_act kb enter [] used c = (c, not used)
core_act kb enter (output.Stop ∷ outputs) used c = without_match (end_output c)
core_act kb enter (output.Enter group ∷ outputs) used c = behind_use (core_act kb enter outputs true) (core_use enter group c)
core_act kb enter (output ∷ outputs) used c = core_act kb enter outputs used (core_act_one kb output c)

-- a match or nomatch output
abbrev pub core_act_alone : CoreKeyboard → Entering → List Out → CoreEvent → CoreEvent
core_act_alone kb enter outputs c = (core_act kb enter outputs false c).0

-- the output of a taken record: first the items that it matched are deleted, unless it begins with `context`
abbrev pub core_output : CoreKeyboard → Entering → List Out → ℕ → CoreEvent → Acted
core_output kb enter (output.Context ∷ outputs) matched c = core_act kb enter outputs false c
core_output kb enter outputs matched c = core_act kb enter outputs false (core_back matched c)

abbrev pub then_match : CoreKeyboard → Entering → List Out → Acted → CoreEvent
then_match kb enter on_match acted = (if acted.1 then core_act_alone kb enter on_match else (λ c. c)) acted.0

-- how many items of a context `context(k)` doesn't count: its conditions, and in version 18 a first `nul`
abbrev pub skipped_count : CoreVersion → List Pat → ℕ
skipped_count version context = count_by is_condition context + (if begins_with_nul context && is_18 version then 1 else 0)

-- what is kept of a taken record
abbrev pub with_match : CoreVersion → Rule → CoreEvent → CoreEvent
with_match version rule c =
    record c {
      last = record {
        kept = last_items (compared_count rule.context) c.window;
        skipped = skipped_count version rule.context;
        places = c.last.places;
      };
    }

-- a taken record: its output acts, then the match output of its group
abbrev pub core_done : CoreKeyboard → Entering → List Out → Rule → CoreEvent → CoreEvent
core_done kb enter on_match rule c =
    then_match kb enter on_match (core_output kb enter rule.output (compared_count rule.context) (with_match kb.version rule c))

-- When a rule holds, and what it then catches.
use Rattle.std.specs.Prelude.{ℕ, ◌-◌, Bool, true, false, not, ◌&&◌, nat_eq, nat_le, if◌then◌else◌, List, [], ◌∷◌, length, drop, Option, Some, None, position, count_by}
use Rattle.std.specs.List.{list_all, list_any}
use Rattle.kmn_base.specs.declared.items.Item.{Item}
use Rattle.kmn_base.specs.declared.items.Element.{Element}
use Rattle.kmn_base.specs.declared.items.Element.TheVariants as element
use Rattle.kmn_base.specs.declared.keys.RuleKey.{RuleKey}
use Rattle.kmn_base.specs.declared.keys.RuleKey.TheVariants as key
use Rattle.kmn_base.specs.declared.keys.KeyPress.{KeyPress}
use Rattle.std.specs.Bool.{beq}
use Rattle.virtual_keys.specs.Fits.{shift, caps, no_caps, has, either_control, left_control, right_control, either_alt, left_alt, right_alt, sides_fit, key_fits}
use Rattle.rule_model.specs.declared.event_state.Catch.{Catch}
use Rattle.rule_model.specs.declared.event_state.Caught.{Caught}
use Rattle.rule_model.specs.Keyboard.{Pattern, IfEqual, IfUnequal, AtStart, KeyPattern, OneKey, KeyIn, RuleMeaning}
use Rattle.rule_model.specs.Match.{Content, takes_item, catches_from}
use Rattle.rule_model.specs.System.{is_equal}

-- whether a condition is true in a state
abbrev pub is_true : Content → Pattern → Bool
is_true content (IfEqual store value) = is_equal store (content store) value
is_true content (IfUnequal store value) = not (is_equal store (content store) value)
is_true content pattern = true

abbrev pub is_at_start : Pattern → Bool
is_at_start AtStart = true
is_at_start pattern = false

-- the number of items of the text that a context matches
abbrev pub pattern_count : List Pattern → ℕ
pattern_count context = count_by takes_item context

-- whether the left list has at least as many items as the context matches, and with a `nul` exactly as many
abbrev pub has_room : List Pattern → List Item → Bool
has_room context left =
    if list_any is_at_start context then nat_eq (length left) (pattern_count context) else nat_le (pattern_count context) (length left)

-- the key that an element of a key store denotes; a mark denotes none
abbrev pub key_of_element : Element → Option RuleKey
key_of_element (element.Char c) = Some (key.Char c)
key_of_element (element.Mark m) = None
key_of_element (element.Key flags code) = Some (key.Virtual flags code)

-- whether a key exchanges shift and caps lock: its code is cased, and its flags name neither CAPS nor NCAPS
abbrev pub is_exchanged : List ℕ → ℕ → ℕ → Bool
is_exchanged cased flags code = list_any (nat_eq code) cased && (not (has flags caps) && not (has flags no_caps))

-- whether the held modifiers fit such a key: if SHIFT is named, exactly one of shift and caps lock is on, else both or neither
abbrev pub exchanged_fit : ℕ → ℕ → Bool
exchanged_fit flags mods =
    beq (has flags shift) (not (beq (has mods shift) (has mods caps)))
    && (sides_fit either_control left_control right_control flags mods && sides_fit either_alt left_alt right_alt flags mods)

abbrev pub virtual_fits : Bool → ℕ → ℕ → KeyPress → Bool
virtual_fits exchanged flags code press =
    if exchanged then nat_eq code press.code && exchanged_fit flags press.mods else key_fits (key.Virtual flags code) press

-- whether a key fits a press on a keyboard with these cased keys
abbrev pub fits_cased : List ℕ → RuleKey → KeyPress → Bool
fits_cased [] wanted press = key_fits wanted press
fits_cased (first ∷ others) (key.Virtual flags code) press = virtual_fits (is_exchanged (first ∷ others) flags code) flags code press
fits_cased (first ∷ others) wanted press = key_fits wanted press

abbrev pub fits_press_with : List ℕ → KeyPress → Option RuleKey → Bool
fits_press_with cased press None = false
fits_press_with cased press (Some wanted) = fits_cased cased wanted press

-- the first position of a key store whose key fits the press
abbrev pub key_place_with : List ℕ → KeyPress → List Element → Option ℕ
key_place_with cased press elements = position (λ e. fits_press_with cased press (key_of_element e)) elements

abbrev pub some_place : Option ℕ → Option (Option ℕ)
some_place None = None
some_place (Some place) = Some (Some place)

-- the position of a key that fits: absent for a single key, the first position for a store; None if no key fits
abbrev pub fitting_place_with : List ℕ → Content → KeyPress → KeyPattern → Option (Option ℕ)
fitting_place_with cased content press (OneKey wanted) = if fits_cased cased wanted press then Some None else None
fitting_place_with cased content press (KeyIn store) = some_place (key_place_with cased press (content store))

-- what a rule catches, if its context and its key both match
abbrev pub caught_by : Option (List Catch) → Option (Option ℕ) → Option Caught
caught_by None place = None
caught_by (Some catches) None = None
caught_by (Some catches) (Some place) = Some (record { catches = catches; key_place = place })

-- a rule holds on a left list: its conditions are true, the last items match its patterns one by one, the list has no other items if the
-- context has a `nul`, and its key fits the press. The value is what the rule caught
abbrev pub holds_with : List ℕ → Content → List Item → KeyPress → RuleMeaning → Option Caught
holds_with cased content left press rule =
    if list_all (is_true content) rule.context && has_room rule.context left
    then caught_by
    (catches_from content [] rule.context (drop (length left - pattern_count rule.context) left))
    (fitting_place_with cased content press rule.key)
    else None

-- the same for a keyboard without cased keys, such as the keyboard of a file
abbrev pub key_place : KeyPress → List Element → Option ℕ
key_place = key_place_with []

abbrev pub holds : Content → List Item → KeyPress → RuleMeaning → Option Caught
holds = holds_with []

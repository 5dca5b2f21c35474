-- Whether the context of a record holds in Keyman's own engine, which places it finds, and which record is taken.
use Rattle.std.specs.Prelude.{ℕ, zero, suc, ◌-◌, Bool, true, false, not, ◌&&◌, ◌||◌, nat_eq, nat_le, if◌then◌else◌, List, [], ◌∷◌, ◌++◌, length, map, drop, count_by, position, slice_get, unwrap_or, is_some, option_map, codes, Option, Some, None}
use Rattle.std.specs.List.{list_all}
use Rattle.std.specs.Option.{option_map_or}
use Rattle.kmn_base.specs.declared.items.Item.{Item}
use Rattle.kmn_base.specs.declared.items.Element.{Element}
use Rattle.kmn_base.specs.declared.items.Element.TheVariants as element
use Rattle.kmn_base.specs.declared.keys.KeyPress.{KeyPress}
use Rattle.rule_model.specs.declared.event_state.EventState.{EventState}
use Rattle.rule_model.specs.declared.tables.Pat.{Pat}
use Rattle.rule_model.specs.declared.tables.Pat.TheVariants as pattern
use Rattle.rule_model.specs.declared.tables.Rule.{Rule}
use Rattle.rule_model.specs.declared.tables.Group.{Group}
use Rattle.rule_model.specs.declared.tables.Store.{Store}
use Rattle.rule_model.specs.declared.system.TheConstants.{PLATFORM}
use Rattle.rule_model.specs.Keyboard.{Numbered}
use Rattle.rule_model.specs.Match.{Content, is_item, is_element, same_item, same_value, place_of}
use Rattle.rule_model.specs.Content.{content}
use Rattle.rule_model.specs.Patterns.{is_condition, is_nul}
use Rattle.rule_model.specs.System.{is_space, has_words}
use Rattle.core_meaning.specs.Events.{CoreVersion, is_18, CoreKeyboard, last_items}
use Rattle.core_meaning.specs.Keys.{core_key_fits}

-- the content of each store in an event
abbrev pub core_content : CoreKeyboard → EventState → Content
core_content kb s = content kb.stores s.current

-- the platform on which the engine was measured
abbrev pub core_platform : List Element
core_platform = map element.Char (codes "windows hardware desktop native")

abbrev pub is_space_at : List Element → ℕ → Bool
is_space_at value place = option_map_or is_space (slice_get value place) false

-- whether a value has an empty word, which no platform has: it is empty, or begins or ends with a blank
abbrev pub has_empty_word : List Element → Bool
has_empty_word value = nat_eq (length value) 0 || is_space_at value 0 || is_space_at value (length value - 1)

-- the number of the first store with a system id
abbrev pub system_store : List Store → ℕ → Option ℕ
system_store stores id = position (λ (store : Store). nat_eq store.system id) stores

-- whether a system option is equal to a value: the platform has each word of the value, or the first store with the id has the
-- value. None if no store has the id
abbrev pub system_equal : CoreKeyboard → Content → ℕ → List Element → Option Bool
system_equal kb content id value =
    if nat_eq id PLATFORM then Some (not (has_empty_word value) && has_words core_platform value)
    else option_map (λ n. same_value (content (Numbered n)) value) (system_store kb.tables.stores id)

-- whether an item of a context, if it is a condition, is true; one on a system id that no store has never is
abbrev pub core_condition : CoreKeyboard → Content → Pat → Bool
core_condition kb content (pattern.Equal store value) = same_value (content (Numbered store)) (content (Numbered value))
core_condition kb content (pattern.Unequal store value) = not (same_value (content (Numbered store)) (content (Numbered value)))
core_condition kb content (pattern.SystemEqual id value) = unwrap_or (system_equal kb content id (content (Numbered value))) false
core_condition kb content (pattern.SystemUnequal id value) = option_map_or not (system_equal kb content id (content (Numbered value))) false
core_condition kb content _ = true

-- the place that the item of an offset found, 0 where it found none; offsets count from 1
abbrev pub place_found : List ℕ → ℕ → ℕ
place_found places zero = 0
place_found places (suc before) = unwrap_or (slice_get places before) 0

-- whether an item is the one that was compared with the item of an offset, or none was
abbrev pub is_repeated : List Item → ℕ → Item → Bool
is_repeated seen zero x = true
is_repeated seen (suc before) x = option_map_or (same_item x) (slice_get seen before) true

-- whether an item of a context matches an item of the window, given the places found and the items compared so far; a `nul` that
-- isn't the first item of its context never matches
abbrev pub core_matches : Content → List ℕ → List Item → Pat → Item → Bool
core_matches content places seen (pattern.Char c) x = is_item x (element.Char c)
core_matches content places seen (pattern.Mark m) x = is_item x (element.Mark m)
core_matches content places seen (pattern.Any store) x = is_some (place_of x (content (Numbered store)))
core_matches content places seen (pattern.NotAny store) x = not (is_some (place_of x (content (Numbered store))))
core_matches content places seen (pattern.Index store offset) x = is_element x (slice_get (content (Numbered store)) (place_found places offset))
core_matches content places seen (pattern.ContextAt offset) x = is_repeated seen offset x
core_matches content places seen _ x = false

-- the place that an item of a context finds: an `any` that of the item in its store, and an `index` the one that it uses
abbrev pub core_place : Content → List ℕ → Pat → Item → ℕ
core_place content places (pattern.Any store) x = unwrap_or (place_of x (content (Numbered store))) 0
core_place content places (pattern.Index store offset) x = place_found places offset
core_place content places _ x = 0

-- whether a context holds, and the places that its compared items found
abbrev pub Tried : Type 0
Tried = Bool × List ℕ

-- the result of the rest of a context, given the places found, the items compared so far, and the remaining items of the window
abbrev pub Rest : Type 0
Rest = List ℕ → List Item → List Item → Tried

abbrev pub fails : Rest
fails places seen items = (false, places)

-- a condition is compared with no item
abbrev pub passes_by : Rest → Rest
passes_by rest places seen items = rest (places ++ 0 ∷ []) seen items

-- an item of a context is compared with the next item
abbrev pub compares : Content → Pat → Rest → Rest
compares content pattern rest places seen [] = (false, places)
compares content pattern rest places seen (x ∷ items) =
    (if core_matches content places seen pattern x then rest else fails)
    (places ++ core_place content places pattern x ∷ []) (seen ++ x ∷ []) items

-- the items of a context, each compared with its own item of the window, from given places and compared items on
abbrev pub core_match : Content → List Pat → Rest
core_match content [] places seen items = (true, places)
core_match content (pattern ∷ patterns) places seen items =
    (if is_condition pattern then passes_by else compares content pattern) (core_match content patterns) places seen items

-- whether a context begins with `nul`, and its items without that
abbrev pub begins_with_nul : List Pat → Bool
begins_with_nul [] = false
begins_with_nul (pattern ∷ patterns) = is_nul pattern

abbrev pub behind_nul : List Pat → List Pat
behind_nul context = if begins_with_nul context then drop 1 context else context

-- how many items of the window a context is compared with
abbrev pub compared_count : List Pat → ℕ
compared_count context = count_by (λ pattern. not (is_condition pattern)) (behind_nul context)

-- the window has as many items as a context is compared with, and no more if the context begins with `nul`
abbrev pub has_items : List Pat → List Item → Bool
has_items context window =
    nat_le (compared_count context) (length window) && (not (begins_with_nul context) || nat_le (length window) (compared_count context))

-- version 18 counts a first `nul` among the items that find places
abbrev pub first_places : CoreVersion → List Pat → List ℕ
first_places version context = if begins_with_nul context && is_18 version then 0 ∷ [] else []

-- whether a context holds: its conditions are true, and its other items match the last items of the window
abbrev pub core_holds : CoreKeyboard → Content → List Item → List Pat → Tried
core_holds kb content window context =
    if has_items context window && list_all (core_condition kb content) context
    then core_match content (behind_nul context) (first_places kb.version context) [] (last_items (compared_count context) window)
    else (false, [])

-- whether a record whose context holds is taken: with keys its key fits, without keys its context is not empty
abbrev pub core_takes : Group → KeyPress → Rule → Bool
core_takes group press rule = if group.using_keys then core_key_fits rule.key press else not (nat_eq (length rule.context) 0)

-- the record that is taken, if one is, and the places that the last tried record found
abbrev pub Taken : Type 0
Taken = Option Rule × List ℕ

abbrev pub take_with : Rule → List ℕ → Taken
take_with rule places = (Some rule, places)

-- a record is taken if its context holds and it can be taken, or else the others are tried
abbrev pub take_or_try : Rule → Bool → (List ℕ → Taken) → Tried → Taken
take_or_try rule takes others tried = (if tried.0 && takes then take_with rule else others) tried.1

-- the first record of a list that holds and is taken, given the places found before any of them is tried
abbrev pub core_choose : (Rule → Tried) → (Rule → Bool) → List Rule → List ℕ → Taken
core_choose holds takes [] places = (None, places)
core_choose holds takes (rule ∷ rules) places = take_or_try rule (takes rule) (core_choose holds takes rules) (holds rule)

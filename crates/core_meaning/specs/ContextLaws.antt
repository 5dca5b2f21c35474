-- Which contexts hold in Keyman's own engine as in this product, and which record is taken there.
use Rattle.std.specs.Prelude.{◌≡◌, ℕ, zero, suc, ◌-◌, ◌<◌, ◌≤◌, ◌⊎◌, Bool, true, false, not, ◌&&◌, if◌then◌else◌, List, [], ◌∷◌, ◌++◌, length, map, take, drop, count_by, slice_get, codes, Option, Some, None}
use Rattle.std.specs.List.{list_all, list_any}
use Rattle.kmn_base.specs.declared.items.Item.{Item}
use Rattle.kmn_base.specs.declared.items.Element.{Element}
use Rattle.kmn_base.specs.declared.items.Element.TheVariants as element
use Rattle.rule_model.specs.declared.event_state.Catch.{Catch}
use Rattle.rule_model.specs.declared.tables.Pat.{Pat}
use Rattle.rule_model.specs.declared.tables.Pat.TheVariants as pattern
use Rattle.rule_model.specs.declared.tables.Rule.{Rule}
use Rattle.rule_model.specs.declared.tables.Store.{Store}
use Rattle.rule_model.specs.declared.system.TheConstants.{PLATFORM}
use Rattle.rule_model.specs.Keyboard.{Numbered, Platform, Pattern}
use Rattle.rule_model.specs.Match.{Content, place_caught, catches_from}
use Rattle.rule_model.specs.Patterns.{is_condition}
use Rattle.rule_model.specs.Hold.{is_true, has_room, pattern_count}
use Rattle.rule_model.specs.Tab.{elements_of, tab_pattern}
use Rattle.core_meaning.specs.Events.{CoreKeyboard}
use Rattle.core_meaning.specs.Contexts.{has_empty_word, core_condition, Tried, place_found, core_match, core_holds, core_choose}

-- there is an item of a context, and it is an `any`
abbrev pub IsAnyItem : Option Pat → Type 0
IsAnyItem (Some (pattern.Any store)) = Unit {0}
IsAnyItem _ = ⊥

-- an offset is of an `any` among items of a context
abbrev pub NamesAny : List Pat → ℕ → Type 0
NamesAny items zero = ⊥
NamesAny items (suc before) = IsAnyItem (slice_get items before)

-- whether an item of a context is not a condition
abbrev pub is_compared : Pat → Bool
is_compared item = not (is_condition item)

-- an offset is of an item among items of a context, and no item up to it is a condition
abbrev pub NamesCompared : List Pat → ℕ → Type 0
NamesCompared items zero = ⊥
NamesCompared items (suc before) = (before < length items) × (list_all is_compared (take (suc before) items) ≡ true)

-- an item of a context that both compare in the same way after others: an `index` names an `any` before it, a `context` an item before
-- it, with no condition up to that, and the item is not a `nul`
abbrev pub IsAlike : List Pat → Pat → Type 0
IsAlike others (pattern.Index store offset) = NamesAny others offset
IsAlike others (pattern.ContextAt offset) = NamesCompared others offset
IsAlike others pattern.Nul = ⊥
IsAlike others _ = Unit {0}

-- items of a context that both compare in the same way after others
abbrev pub AreAlike : List Pat → List Pat → Type 0
AreAlike others [] = Unit {0}
AreAlike others (item ∷ items) = IsAlike others item × AreAlike (others ++ item ∷ []) items

-- both match or neither does, and each place that the product catches is the place that the engine finds
abbrev pub FindsAlike : Option (List Catch) → Tried → Type 0
FindsAlike None tried = tried.0 ≡ false
FindsAlike (Some catches) tried =
    (tried.0 ≡ true) × ((offset place : ℕ) → place_caught catches offset ≡ Some place → place_found tried.1 offset ≡ place)

-- items of a context that both compare in the same way match the same items of a text, if there are as many of these as are compared
abbrev pub ContextsMatchAlike : Type 0
ContextsMatchAlike =
    (content : Content) (stores : List Store) (context : List Pat) (text : List Item) → AreAlike [] context → length text ≡ count_by is_compared context
    → FindsAlike (catches_from content [] (map (tab_pattern stores) context) text) (core_match content context [] [] text)

-- the platform that this product has before a host sets another
abbrev pub stated_platform : List Element
stated_platform = map element.Char (codes "windows desktop hardware native")

-- a value store has the elements of the file, as each store that is not an option does
abbrev pub HasItsElements : Content → List Store → ℕ → Type 0
HasItsElements content stores value = content (Numbered value) ≡ elements_of stores value

-- a condition on the platform, for a value without an empty word, with the platform that this product has at first
pub record IsOnPlatform (content : Content) (stores : List Store) (id value : ℕ) : Type 0 where
  pub platform : id ≡ PLATFORM
  pub unset : content Platform ≡ stated_platform
  pub elements : HasItsElements content stores value
  pub words : has_empty_word (elements_of stores value) ≡ false

-- a condition that both test in the same way: its value is not an option, and a system option is the platform
abbrev pub IsTriedAlike : Content → List Store → Pat → Type 0
IsTriedAlike content stores (pattern.Equal store value) = HasItsElements content stores value
IsTriedAlike content stores (pattern.Unequal store value) = HasItsElements content stores value
IsTriedAlike content stores (pattern.SystemEqual id value) = IsOnPlatform content stores id value
IsTriedAlike content stores (pattern.SystemUnequal id value) = IsOnPlatform content stores id value
IsTriedAlike content stores _ = Unit {0}

-- such conditions are true in the engine exactly where they are in this product
abbrev pub ConditionsAreAlike : Type 0
ConditionsAreAlike =
    (kb : CoreKeyboard) (content : Content) (stores : List Store) (item : Pat) → IsTriedAlike content stores item → core_condition kb content item ≡ is_true content (tab_pattern stores item)

abbrev pub AreTriedAlike : Content → List Store → List Pat → Type 0
AreTriedAlike content stores [] = Unit {0}
AreTriedAlike content stores (item ∷ items) = IsTriedAlike content stores item × AreTriedAlike content stores items

-- the window is long enough for a context: it has as many items as are compared, or nothing is before it
abbrev pub IsLongEnough : List Pat → (before window : List Item) → Type 0
IsLongEnough context before window = (count_by is_compared context ≤ length window) ⊎ (before ≡ [])

-- what a context catches of the end of a text in this product, if its conditions are true and the text is long enough for it
abbrev pub caught_of : Content → List Pattern → List Item → Option (List Catch)
caught_of content context left =
    if list_all (is_true content) context && has_room context left
    then catches_from content [] context (drop (length left - pattern_count context) left)
    else None

-- such a context holds in the engine exactly where it does in this product, if the window is long enough for it
abbrev pub ContextsHoldAlike : Type 0
ContextsHoldAlike =
    (kb : CoreKeyboard) (content : Content) (stores : List Store) (context : List Pat) (before window : List Item)
    → AreAlike [] context → AreTriedAlike content stores context → IsLongEnough context before window
    → FindsAlike (caught_of content (map (tab_pattern stores) context) (before ++ window)) (core_holds kb content window context)

-- whether a record both holds and is taken
abbrev pub is_possible : (Rule → Tried) → (Rule → Bool) → Rule → Bool
is_possible holds takes rule = (holds rule).0 && takes rule

-- a record of a list holds and is taken, and none before it does both
pub record IsFirstTaken (holds : Rule → Tried) (takes : Rule → Bool) (rules : List Rule) (rule : Rule) : Type 0 where
  pub place : ℕ
  pub listed : slice_get rules place ≡ Some rule
  pub possible : is_possible holds takes rule ≡ true
  pub none_before : list_any (is_possible holds takes) (take place rules) ≡ false

-- the record that is taken is the first one that holds and is taken; if none is taken, no record does both
pub record TakesFirst (holds : Rule → Tried) (takes : Rule → Bool) (rules : List Rule) (places : List ℕ) : Type 0 where
  pub first : (rule : Rule) → (core_choose holds takes rules places).0 ≡ Some rule → IsFirstTaken holds takes rules rule
  pub none : (core_choose holds takes rules places).0 ≡ None → list_any (is_possible holds takes) rules ≡ false

abbrev pub FirstIsTaken : Type 0
FirstIsTaken = (holds : Rule → Tried) (takes : Rule → Bool) (rules : List Rule) (places : List ℕ) → TakesFirst holds takes rules places

-- What a store contains in a state: the current value of an option, else its elements. Values are stored by option number.
use Rattle.std.specs.Prelude.{ℕ, zero, suc, ◌+◌, ◌-◌, ◌&&◌, not, length, if◌then◌else◌, List, [], ◌∷◌, Option, Some, None, slice_get, unwrap_or, position, option_and_then}
use Rattle.kmn_base.specs.declared.items.Element.{Element}
use Rattle.kmn_base.specs.Names.{same_name}
use Rattle.rule_model.specs.Keyboard.{Ref, Named, Numbered, Layer, Platform, StoreMeaning, GroupMeaning}

-- the number of options among the first n stores
abbrev pub options_before : ℕ → List StoreMeaning → ℕ
options_before zero stores = 0
options_before (suc n) [] = 0
options_before (suc n) (store ∷ stores) = if store.is_option then 1 + options_before n stores else options_before n stores

-- the number of a store: for a name, the first store that has it, else None; the system options are the last two stores
abbrev pub store_number : List StoreMeaning → Ref → Option ℕ
store_number stores (Named name) = position (λ store. not store.is_system && same_name store.name name) stores
store_number stores (Numbered n) = Some n
store_number stores Layer = Some (length stores - 2)
store_number stores Platform = Some (length stores - 1)

-- the elements of a store as the keyboard defines them
abbrev pub elements_of_store : Option StoreMeaning → List Element
elements_of_store None = []
elements_of_store (Some store) = store.elements

abbrev pub elements_at : List StoreMeaning → Option ℕ → List Element
elements_at stores None = []
elements_at stores (Some n) = elements_of_store (slice_get stores n)

-- the current value of an option by its number, else the elements of the store
abbrev pub content_of : List (List Element) → ℕ → Option StoreMeaning → List Element
content_of values option None = []
content_of values option (Some store) = if store.is_option then unwrap_or (slice_get values option) [] else store.elements

abbrev pub content_at : List StoreMeaning → List (List Element) → Option ℕ → List Element
content_at stores values None = []
content_at stores values (Some n) = content_of values (options_before n stores) (slice_get stores n)

-- the content of a store in a state
abbrev pub content : List StoreMeaning → List (List Element) → Ref → List Element
content stores values ref = content_at stores values (store_number stores ref)

-- the option number of a store; None if it is not an option
abbrev pub option_of : ℕ → Option StoreMeaning → Option ℕ
option_of option None = None
option_of option (Some store) = if store.is_option then Some option else None

abbrev pub option_at : List StoreMeaning → Option ℕ → Option ℕ
option_at stores None = None
option_at stores (Some n) = option_of (options_before n stores) (slice_get stores n)

-- the option number of a store by its reference
abbrev pub option_number : List StoreMeaning → Ref → Option ℕ
option_number stores ref = option_at stores (store_number stores ref)

-- a group by its reference; for a name, the first group that has it
abbrev pub group_at : List GroupMeaning → Ref → Option GroupMeaning
group_at groups (Named name) = option_and_then (slice_get groups) (position (λ group. same_name group.name name) groups)
group_at groups (Numbered n) = slice_get groups n
group_at groups Layer = None
group_at groups Platform = None

-- The tables that a file can have.
use Rattle.std.specs.Prelude.{◌||◌, ◌≡◌, ◌≢◌, ℕ, zero, suc, ◌^◌, ◌<◌, ◌≤◌, ◌⊎◌, Bool, true, false, nat_eq, bit_and, List, [], ◌∷◌, length, take, slice_get, slice_index_or, IsSomeAnd}
use Rattle.std.specs.List.{All, flat_map}
use Rattle.std.specs.Str.{IsUtf8, chars}
use Rattle.kmn_base.specs.declared.keys.TheConstants.{SHIFT_FLAGS}
use Rattle.kmn_base.specs.declared.limits.TheConstants.{FILE_NAME_UNITS, STORE_ELEMENTS, CONTEXT_ITEMS, OUTPUT_ITEMS, STORES, GROUPS, RECORDS, ALL_ELEMENTS, PICTURE_BYTES, FILE_BYTES}
use Rattle.kmn_base.specs.declared.items.Element.{Element}
use Rattle.kmn_base.specs.declared.keys.RuleKey.{RuleKey}
use Rattle.kmn_base.specs.declared.keys.RuleKey.TheVariants as key
use Rattle.kmn_base.specs.declared.units.TheConstants.{SENTINEL}
use Rattle.kmn_base.specs.Spelling.{IsSpellable}
use Rattle.rule_model.specs.declared.tables.Pat.{Pat}
use Rattle.rule_model.specs.declared.tables.Pat.TheVariants as pattern
use Rattle.rule_model.specs.declared.tables.Out.{Out}
use Rattle.rule_model.specs.declared.tables.Out.TheVariants as output
use Rattle.rule_model.specs.declared.tables.Rule.{Rule}
use Rattle.rule_model.specs.declared.tables.Store.{Store}
use Rattle.rule_model.specs.declared.tables.Group.{Group}
use Rattle.rule_model.specs.declared.tables.Tables.{Tables}
use Rattle.rule_model.specs.Patterns.{is_matched}
use Rattle.kmx_format.specs.Versions.{is_version}
use Rattle.kmx_format.specs.FileUnits.{unit_item_of_element, unit_item_of_pattern, unit_item_of_output, name_units}
use Rattle.kmx_format.specs.File.{all_rules, file_of}
use Rattle.rule_model.specs.declared.system.TheConstants.{LAYER, NO_GROUP, PLATFORM}

-- a name is UTF-8 without U+0000 and U+FFFF, and not too long
pub record IsWritableName (name : List ℕ) : Type 0 where
  pub utf8 : IsUtf8 name
  pub characters : All (λ c. (c ≢ 0) × (c ≢ SENTINEL)) (chars name)
  pub units : length (name_units name) ≤ FILE_NAME_UNITS

-- each element of a store has a spelling, and there are not too many
pub record IsWritableStore (store : Store) : Type 0 where
  pub system : store.system < 2 ^ 32
  pub name : IsWritableName store.name
  pub elements : All (λ element. IsSpellable (unit_item_of_element element)) store.elements
  pub element_count : length store.elements ≤ STORE_ELEMENTS

-- the stores that an item of a context names
abbrev pub stores_of_pattern : Pat → List ℕ
stores_of_pattern (pattern.Any store) = store ∷ []
stores_of_pattern (pattern.NotAny store) = store ∷ []
stores_of_pattern (pattern.Index store offset) = store ∷ []
stores_of_pattern (pattern.Equal store value) = store ∷ value ∷ []
stores_of_pattern (pattern.Unequal store value) = store ∷ value ∷ []
stores_of_pattern (pattern.SystemEqual id value) = value ∷ []
stores_of_pattern (pattern.SystemUnequal id value) = value ∷ []
stores_of_pattern _ = []

-- the stores that an item of an output names
abbrev pub stores_of_output : Out → List ℕ
stores_of_output (output.Index store offset) = store ∷ []
stores_of_output (output.Set store value) = store ∷ value ∷ []
stores_of_output (output.SetSystem id value) = value ∷ []
stores_of_output (output.Save store) = store ∷ []
stores_of_output (output.Reset store) = store ∷ []
stores_of_output _ = []

-- the groups that an item of an output names
abbrev pub groups_of_output : Out → List ℕ
groups_of_output (output.Enter group) = group ∷ []
groups_of_output _ = []

-- whether an item tests only a system option that a file can test, the platform or the layer; a file can set only the layer
abbrev pub has_system_id : Pat → Bool
has_system_id (pattern.SystemEqual id value) = nat_eq id PLATFORM || nat_eq id LAYER
has_system_id (pattern.SystemUnequal id value) = nat_eq id PLATFORM || nat_eq id LAYER
has_system_id _ = true

abbrev pub sets_system_id : Out → Bool
sets_system_id (output.SetSystem id value) = nat_eq id LAYER
sets_system_id _ = true

-- whether an item of a context is `any`
abbrev pub is_any : Pat → Bool
is_any (pattern.Any store) = true
is_any _ = false

-- an offset, counted from 1, points to an item that passes a test
abbrev pub PointsTo : (Pat → Bool) → List Pat → ℕ → Type 0
PointsTo test context zero = ⊥
PointsTo test context (suc place) = IsSomeAnd (slice_get context place) (λ item. test item ≡ true)

-- an item of a context refers to an earlier item: `index` to an `any`, `context(n)` to a matched item
abbrev pub PointsBack : List Pat → Pat → Type 0
PointsBack before (pattern.Index store offset) = PointsTo is_any before offset
PointsBack before (pattern.ContextAt offset) = PointsTo is_matched before offset
PointsBack before _ = Unit {0}

-- an item of an output refers to an item of the context: `index` to an `any`, `context(n)` to a matched item
abbrev pub PointsInto : List Pat → Out → Type 0
PointsInto context (output.Index store offset) = PointsTo is_any context offset
PointsInto context (output.ContextAt offset) = PointsTo is_matched context offset
PointsInto context _ = Unit {0}

-- whether an item of an output requires the context of a rule, which match and nomatch do not have
abbrev pub needs_context : Out → Bool
needs_context (output.Index store offset) = true
needs_context output.Context = true
needs_context (output.ContextAt offset) = true
needs_context _ = false

-- each item of a context has a spelling, names only stores below the count, and refers only to earlier items
pub record IsWritableContext (store_count : ℕ) (context : List Pat) : Type 0 where
  pub items : All (λ item. IsSpellable (unit_item_of_pattern item)) context
  pub stores : All (λ store. store < store_count) (flat_map stores_of_pattern context)
  pub systems : All (λ item. has_system_id item ≡ true) context
  pub offsets : (place : ℕ) (d : Pat) → place < length context → PointsBack (take place context) (slice_index_or context place d)
  pub item_count : length context ≤ CONTEXT_ITEMS

-- each item of an output has a spelling, and names only stores and groups below the counts
pub record IsWritableOutput (store_count group_count : ℕ) (output : List Out) : Type 0 where
  pub items : All (λ item. IsSpellable (unit_item_of_output item)) output
  pub stores : All (λ store. store < store_count) (flat_map stores_of_output output)
  pub systems : All (λ item. sets_system_id item ≡ true) output
  pub groups : All (λ group. group < group_count) (flat_map groups_of_output output)
  pub item_count : length output ≤ OUTPUT_ITEMS

-- a key is `Any` exactly in a group without keys, and a virtual key has known flags
abbrev pub IsWritableKey : Bool → RuleKey → Type 0
IsWritableKey false key.Any = Unit {0}
IsWritableKey false (key.Char unit) = ⊥
IsWritableKey false (key.Virtual flags code) = ⊥
IsWritableKey true key.Any = ⊥
IsWritableKey true (key.Char unit) = unit < 2 ^ 16
IsWritableKey true (key.Virtual flags code) = (flags ≢ 0) × (bit_and flags SHIFT_FLAGS ≡ flags) × (code < 2 ^ 16)

-- a key record of a group that uses keys or does not
pub record IsWritableRule (store_count group_count : ℕ) (using_keys : Bool) (rule : Rule) : Type 0 where
  pub line : rule.line < 2 ^ 32
  pub key : IsWritableKey using_keys rule.key
  pub context : IsWritableContext store_count rule.context
  pub output : IsWritableOutput store_count group_count rule.output
  pub offsets : All (PointsInto rule.context) rule.output

-- a match or nomatch output, which acts without the context of a rule
pub record IsWritableMatchOutput (store_count group_count : ℕ) (output : List Out) : Type 0 where
  pub itself : IsWritableOutput store_count group_count output
  pub no_context : All (λ item. needs_context item ≡ false) output

-- a group of tables with these counts of stores and groups
pub record IsWritableGroup (store_count group_count : ℕ) (group : Group) : Type 0 where
  pub name : IsWritableName group.name
  pub rules : All (IsWritableRule store_count group_count group.using_keys) group.rules
  pub on_match : IsWritableMatchOutput store_count group_count group.on_match
  pub on_nomatch : IsWritableMatchOutput store_count group_count group.on_nomatch

-- the elements of a store
abbrev pub elements_of : Store → List Element
elements_of store = store.elements

-- the tables that a file can have
pub record IsWritable (tables : Tables) : Type 0 where
  pub version : is_version tables.version ≡ true
  pub start_unicode : tables.start_unicode < length tables.groups
  pub start_ansi : (tables.start_ansi < length tables.groups) ⊎ (tables.start_ansi ≡ NO_GROUP)
  pub stores : All IsWritableStore tables.stores
  pub groups : All (IsWritableGroup (length tables.stores) (length tables.groups)) tables.groups
  pub store_count : length tables.stores ≤ STORES
  pub group_count : length tables.groups ≤ GROUPS
  pub rule_count : length (all_rules tables) ≤ RECORDS
  pub element_count : length (flat_map elements_of tables.stores) ≤ ALL_ELEMENTS

-- the bytes are a file of such tables with a picture, both within their limits
pub record IsFile (bytes : List ℕ) : Type 0 where
  pub tables : Tables
  pub picture : List ℕ
  pub writable : IsWritable tables
  pub picture_size : length picture ≤ PICTURE_BYTES
  pub file_size : length bytes ≤ FILE_BYTES
  pub is : bytes ≡ file_of tables picture

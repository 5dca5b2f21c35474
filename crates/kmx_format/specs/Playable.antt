-- The tables that can be played: each number that an item names is below its count, each offset points to an item of the required kind,
-- and the limits are kept. Names are not restricted.
use Rattle.std.specs.Prelude.{◌≡◌, ℕ, ◌^◌, ◌<◌, ◌≤◌, ◌⊎◌, ◌↔◌, true, length}
use Rattle.std.specs.List.{All, flat_map}
use Rattle.kmn_base.specs.declared.limits.TheConstants.{STORE_ELEMENTS, STORES, GROUPS, RECORDS, ALL_ELEMENTS}
use Rattle.kmn_base.specs.Spelling.{IsSpellable}
use Rattle.rule_model.specs.declared.system.TheConstants.{NO_GROUP}
use Rattle.rule_model.specs.declared.tables.Store.{Store}
use Rattle.rule_model.specs.declared.tables.Group.{Group}
use Rattle.rule_model.specs.declared.tables.Tables.{Tables}
use Rattle.kmx_format.specs.FileUnits.{unit_item_of_element}
use Rattle.kmx_format.specs.File.{all_rules}
use Rattle.kmx_format.specs.Versions.{is_version}
use Rattle.kmx_format.specs.Writable.{elements_of, IsWritableName, IsWritableRule, IsWritableMatchOutput, IsWritable}

-- each element of a store has a spelling, and there are not too many
pub record IsPlayableStore (store : Store) : Type 0 where
  pub system : store.system < 2 ^ 32
  pub elements : All (λ element. IsSpellable (unit_item_of_element element)) store.elements
  pub element_count : length store.elements ≤ STORE_ELEMENTS

-- a group of tables with these counts of stores and groups
pub record IsPlayableGroup (store_count group_count : ℕ) (group : Group) : Type 0 where
  pub rules : All (IsWritableRule store_count group_count group.using_keys) group.rules
  pub on_match : IsWritableMatchOutput store_count group_count group.on_match
  pub on_nomatch : IsWritableMatchOutput store_count group_count group.on_nomatch

-- the tables that can be played
pub record IsPlayable (tables : Tables) : Type 0 where
  pub version : is_version tables.version ≡ true
  pub start_unicode : tables.start_unicode < length tables.groups
  pub start_ansi : (tables.start_ansi < length tables.groups) ⊎ (tables.start_ansi ≡ NO_GROUP)
  pub stores : All IsPlayableStore tables.stores
  pub groups : All (IsPlayableGroup (length tables.stores) (length tables.groups)) tables.groups
  pub store_count : length tables.stores ≤ STORES
  pub group_count : length tables.groups ≤ GROUPS
  pub rule_count : length (all_rules tables) ≤ RECORDS
  pub element_count : length (flat_map elements_of tables.stores) ≤ ALL_ELEMENTS

-- the names of stores and groups can be written to a file
pub record HasWritableNames (tables : Tables) : Type 0 where
  pub stores : All (λ store. IsWritableName store.name) tables.stores
  pub groups : All (λ group. IsWritableName group.name) tables.groups

-- a file can have exactly the tables that can be played and whose names can be written to a file
abbrev pub WritableIsPlayableWithNames : Type 0
WritableIsPlayableWithNames = (tables : Tables) → IsWritable tables ↔ IsPlayable tables × HasWritableNames tables

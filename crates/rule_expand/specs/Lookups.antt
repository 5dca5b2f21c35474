-- The names by which the numbers of a program are found, and how many names there may be.
use Rattle.std.specs.Prelude.{◌≡◌, ℕ, ◌+◌, ◌^◌, ◌<◌, ◌≤◌, List, [], ◌++◌, length, map, position, Option, Some, None}
use Rattle.kmn_base.specs.declared.limits.TheConstants.{KEY_NAMES}
use Rattle.kmn_base.specs.declared.items.Element.{Element}
use Rattle.kmn_base.specs.Names.{same_name}
use Rattle.rule_model.specs.declared.tables.Store.{Store}
use Rattle.rule_model.specs.Naming.{SourceNames}
use Rattle.rule_model.specs.Tab.{elements_of}
use Rattle.store_table.specs.Numbering.{NameLists}
use Rattle.compile_laws.specs.Numbers.{Numbers}
use Rattle.rule_expand.specs.CasedCodes.{HasCodes}

-- the names of deadkeys and keys
abbrev pub source_names : NameLists → SourceNames
source_names lists = record { marks = lists.marks; keys = lists.keys }

-- whether names are so few that each has a number
pub record AreFew (lists : NameLists) : Type 0 where
  pub stores : length lists.stores ≤ 2 ^ 32
  pub groups : length lists.groups ≤ 2 ^ 32
  pub marks : length lists.marks < 2 ^ 16
  pub keys : length lists.keys ≤ KEY_NAMES

abbrev pub store_names : List Store → List (List ℕ)
store_names stores = map (λ (store : Store). store.name) stores

-- whether names of stores begin with the names of these stores
pub record BeginWith (stores : List Store) (names : List (List ℕ)) : Type 0 where
  pub rest : List (List ℕ)
  pub is : names ≡ store_names stores ++ rest

-- whether numbers are the numbers of these names, each of 32 bits, and `known` has the codes of their cased keys
pub record AreNumbers (lists : NameLists) (known : List ℕ) (numbers : Numbers) : Type 0 where
  pub few : AreFew lists
  pub names : numbers.names ≡ source_names lists
  pub groups : numbers.groups ≡ lists.groups
  pub stores : lists.stores ≡ store_names numbers.stores
  pub cased : HasCodes known numbers.cased
  pub values : numbers.first_value + length numbers.values ≤ 2 ^ 32

-- the index of the first store of a name, if any
abbrev pub place_of_store : List Store → List ℕ → Option ℕ
place_of_store stores name = position (λ (store : Store). same_name store.name name) stores

-- the elements of the store at an index, empty if there is no such index
abbrev pub elements_at : List Store → Option ℕ → List Element
elements_at stores None = []
elements_at stores (Some place) = elements_of stores place

-- The numbers of a program's stores, groups and values in its compiled keyboard, and the stores that are added to it.
use Rattle.std.specs.Prelude.{ℕ, ◌+◌, Bool, nat_eq, List, [], ◌∷◌, ◌++◌, length, map, flat_map, find, position, Option, Some, None, option_map, unwrap_or}
use Rattle.std.specs.List.{join_with_byte}
use Rattle.std.specs.Str.{bytes_eq, chars}
use Rattle.kmn_base.specs.declared.items.Element.TheVariants as element
use Rattle.kmn_base.specs.Names.{same_name}
use Rattle.rule_model.specs.declared.program.SrcItem.{SrcItem}
use Rattle.rule_model.specs.declared.program.SrcItem.TheVariants as source
use Rattle.rule_model.specs.declared.program.GroupDef.{GroupDef}
use Rattle.rule_model.specs.declared.program.BeginDef.{BeginDef}
use Rattle.rule_model.specs.declared.program.Program.{Program}
use Rattle.rule_model.specs.declared.tables.Store.{Store}
use Rattle.rule_model.specs.Match.{same_value}
use Rattle.rule_model.specs.Tab.{distinct_onto}
use Rattle.rule_model.specs.Naming.{SourceNames, names_of, stores_of, rule_items, all_rules}
use Rattle.rule_model.specs.Src.{value_elements, cased_keys}
use Rattle.kmx_format.specs.Versions.{file_versions}
use Rattle.kmx_format.specs.declared.versions.TheConstants.{OWN_VERSION}
use Rattle.rule_model.specs.declared.system.TheConstants.{KEY_DICTIONARY, VERSION, NO_GROUP}

-- the value that an item compares with or sets
abbrev pub item_values : SrcItem → List (List ℕ)
item_values (source.Equal store value) = value ∷ []
item_values (source.Unequal store value) = value ∷ []
item_values (source.Set store value) = value ∷ []
item_values (source.SystemEqual id value) = value ∷ []
item_values (source.SystemUnequal id value) = value ∷ []
item_values (source.SetSystem id value) = value ∷ []
item_values item = []

-- the distinct values of a program, by first appearance
unfoldable pub values_of : Program → List (List ℕ)
values_of program = distinct_onto bytes_eq [] (flat_map item_values (flat_map rule_items (all_rules program)))

-- the store of a value in a file
abbrev pub value_store : List ℕ → Store
value_store value = record { system = 0; name = []; elements = value_elements value }

-- the store of the key dictionary, if there are names: the names, separated by spaces
abbrev pub dictionary_stores : List (List ℕ) → List Store
dictionary_stores [] = []
dictionary_stores (name ∷ names) = record { system = KEY_DICTIONARY; name = []; elements = map element.Char (chars (join_with_byte 32 (name ∷ names))) } ∷ []

-- the stores of a compiled keyboard: the stores of the statements, the key dictionary, and one store for each value
abbrev pub compiled_stores : Program → List Store
compiled_stores program = stores_of program ++ (dictionary_stores (names_of program).keys ++ map value_store (values_of program))

-- what a program's numbers are computed from: its names, stores, groups and values, the number of the first value store, and the codes
-- of its cased keys
pub record Numbers : Type 0 where
  pub names : SourceNames
  pub stores : List Store
  pub groups : List (List ℕ)
  pub values : List (List ℕ)
  pub first_value : ℕ
  pub cased : List ℕ

-- the numbers of a program: the stores of the statements are followed by the key dictionary, if any, and then by the values
abbrev pub numbers_of : Program → Numbers
numbers_of program =
    record {
      names = names_of program;
      stores = stores_of program;
      groups = map (λ (group : GroupDef). group.name) program.groups;
      values = values_of program;
      first_value = length (stores_of program) + length (dictionary_stores (names_of program).keys);
      cased = cased_keys program;
    }

-- the number of a store in the file: the index of the first store with the name
abbrev pub number_of_store : Numbers → List ℕ → ℕ
number_of_store numbers name = unwrap_or (position (λ (store : Store). same_name store.name name) numbers.stores) 0

-- the number of a group
abbrev pub number_of_group : Numbers → List ℕ → ℕ
number_of_group numbers name = unwrap_or (position (λ known. same_name known name) numbers.groups) 0

-- the number of the store of a value
abbrev pub number_of_value : Numbers → List ℕ → ℕ
number_of_value numbers value = numbers.first_value + unwrap_or (position (λ known. bytes_eq known value) numbers.values) 0

-- the version that a store of `&version` states, or the version of a program without one
abbrev pub stated_version : Option Store → ℕ
stated_version None = OWN_VERSION
stated_version (Some store) =
    unwrap_or (option_map (λ row. row.1) (find (λ row. same_value (value_elements row.0) store.elements) file_versions)) OWN_VERSION

-- whether a store is `&version`
abbrev pub is_version : Store → Bool
is_version store = nat_eq store.system VERSION

-- the version of the file: the one that the first `&version` states
abbrev pub version_of : Program → ℕ
version_of program = stated_version (find is_version (stores_of program))

-- the number of the start group that a statement names, or the number for no group
abbrev pub number_of_start : Numbers → Option BeginDef → ℕ
number_of_start numbers None = NO_GROUP
number_of_start numbers (Some start) = number_of_group numbers start.group

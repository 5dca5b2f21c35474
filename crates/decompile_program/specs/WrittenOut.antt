-- The tables that can be written out as a program with the same meaning.
use Rattle.std.specs.Prelude.{◌≡◌, ℕ, Bool, true, false, ◌&&◌, nat_eq, nat_lt, nat_le, if◌then◌else◌, List, [], ◌∷◌, ◌++◌, length, flat_map, Option, Some, None, is_some, slice_get}
use Rattle.std.specs.List.{All, list_all}
use Rattle.kmn_base.specs.declared.items.Element.{Element}
use Rattle.kmn_base.specs.declared.items.Element.TheVariants as element
use Rattle.kmn_base.specs.declared.keys.RuleKey.{RuleKey}
use Rattle.kmn_base.specs.declared.keys.RuleKey.TheVariants as key
use Rattle.virtual_keys.specs.Keys.{key_name}
use Rattle.virtual_keys.specs.Dictionary.{name_in}
use Rattle.rule_model.specs.declared.tables.Pat.{Pat}
use Rattle.rule_model.specs.declared.tables.Pat.TheVariants as pattern
use Rattle.rule_model.specs.declared.tables.Out.{Out}
use Rattle.rule_model.specs.declared.tables.Out.TheVariants as output
use Rattle.rule_model.specs.declared.tables.Rule.{Rule}
use Rattle.rule_model.specs.declared.tables.Store.{Store}
use Rattle.rule_model.specs.declared.tables.Group.{Group}
use Rattle.rule_model.specs.declared.tables.Tables.{Tables}
use Rattle.rule_model.specs.Tab.{elements_of, element_char, tab_dictionary, tab_options}
use Rattle.decompile_program.specs.Names.{named_stores}
use Rattle.decompile_program.specs.Items.{store_called}
use Rattle.decompile_program.specs.Back.{names_for}
use Rattle.virtual_keys.specs.declared.dictionary.TheConstants.{FIRST_OWN_CODE}

-- whether the contexts of records are at most this long, and none is longer than the one before it
abbrev pub fall_from : ℕ → List Rule → Bool
fall_from longest [] = true
fall_from longest (rule ∷ rules) = nat_le (length rule.context) longest && fall_from (length rule.context) rules

-- whether no record of a group has a longer context than the one before it
abbrev pub has_falling_contexts : List Rule → Bool
has_falling_contexts [] = true
has_falling_contexts (rule ∷ rules) = fall_from (length rule.context) rules

-- the codes of the virtual keys of tables
abbrev pub element_keys : Element → List ℕ
element_keys (element.Key flags code) = code ∷ []
element_keys e = []

abbrev pub key_codes_of : RuleKey → List ℕ
key_codes_of (key.Virtual flags code) = code ∷ []
key_codes_of k = []

abbrev pub store_keys : Store → List ℕ
store_keys store = flat_map element_keys store.elements

abbrev pub rule_keys : Rule → List ℕ
rule_keys rule = key_codes_of rule.key

abbrev pub group_keys : Group → List ℕ
group_keys group = flat_map rule_keys group.rules

unfoldable pub table_keys : Tables → List ℕ
table_keys tables = flat_map store_keys tables.stores ++ flat_map group_keys tables.groups

-- the stores that an item names as its value
abbrev pub pattern_values : Pat → List ℕ
pattern_values (pattern.Equal s value) = value ∷ []
pattern_values (pattern.Unequal s value) = value ∷ []
pattern_values (pattern.SystemEqual id value) = value ∷ []
pattern_values (pattern.SystemUnequal id value) = value ∷ []
pattern_values p = []

abbrev pub output_values : Out → List ℕ
output_values (output.Set s value) = value ∷ []
output_values (output.SetSystem id value) = value ∷ []
output_values o = []

abbrev pub rule_values : Rule → List ℕ
rule_values rule = flat_map pattern_values rule.context ++ flat_map output_values rule.output

abbrev pub group_values : Group → List ℕ
group_values group = flat_map rule_values group.rules ++ (flat_map output_values group.on_match ++ flat_map output_values group.on_nomatch)

unfoldable pub table_values : Tables → List ℕ
table_values tables = flat_map group_values tables.groups

-- whether a code is that of a key in the key table, or of a name in the dictionary
abbrev pub has_key_name : List (List ℕ) → ℕ → Bool
has_key_name keys code = is_some (if nat_lt code FIRST_OWN_CODE then key_name code else name_in keys code)

-- whether there is a store, and it is an ordinary one
abbrev pub is_ordinary : Option Store → Bool
is_ordinary None = false
is_ordinary (Some store) = nat_eq store.system 0

-- whether the store of a number has only characters
abbrev pub has_characters : Tables → ℕ → Bool
has_characters tables n = list_all (λ (e : Element). is_some (element_char e)) (elements_of tables.stores n)

-- the store of a number keeps its own name in the text
abbrev pub KeepsName : Tables → ℕ → Type 0
KeepsName tables n = (store : Store) → slice_get tables.stores n ≡ Some store → store_called (names_for tables) n ≡ store.name

-- tables that can be written out: contexts of records fall in length, keys have names, the stores that items name, except as
-- values, are ordinary stores, options keep their names, and options and values have only characters
pub record CanBeWrittenOut (tables : Tables) : Type 0 where
  pub order : All (λ (group : Group). has_falling_contexts group.rules ≡ true) tables.groups
  pub keys : All (λ code. has_key_name (tab_dictionary tables.stores) code ≡ true) (table_keys tables)
  pub named : All (λ n. is_ordinary (slice_get tables.stores n) ≡ true) (named_stores tables)
  pub options : All (KeepsName tables) (tab_options tables)
  pub option_elements : All (λ n. has_characters tables n ≡ true) (tab_options tables)
  pub values : All (λ n. has_characters tables n ≡ true) (table_values tables)

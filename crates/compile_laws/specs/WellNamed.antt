-- The conditions for keeping the meaning of a program: the names in its items are defined, and its keys can be distinguished.
use Rattle.std.specs.Prelude.{◌≡◌, ℕ, ◌+◌, Bool, true, false, not, ◌&&◌, ◌||◌, nat_eq, if◌then◌else◌, List, [], ◌∷◌, length, find, Option, Some, None, is_some, position}
use Rattle.std.specs.List.{list_all, list_any}
use Rattle.std.specs.Str.{is_utf8}
use Rattle.kmn_base.specs.declared.items.Element.{Element}
use Rattle.kmn_base.specs.Names.{same_name}
use Rattle.rule_model.specs.declared.program.SrcItem.{SrcItem}
use Rattle.rule_model.specs.declared.program.SrcItem.TheVariants as source
use Rattle.rule_model.specs.declared.program.RuleDef.{RuleDef}
use Rattle.rule_model.specs.declared.program.GroupDef.{GroupDef}
use Rattle.rule_model.specs.declared.program.BeginDef.{BeginDef}
use Rattle.rule_model.specs.declared.program.Program.{Program}
use Rattle.rule_model.specs.declared.tables.Store.{Store}
use Rattle.rule_model.specs.Keyboard.{Named, StoreMeaning}
use Rattle.rule_model.specs.Content.{option_number}
use Rattle.rule_model.specs.Hold.{key_of_element}
use Rattle.rule_model.specs.OwnLines.{have_own_lines}
use Rattle.rule_model.specs.Naming.{names_of, stores_of, elements_named}
use Rattle.rule_model.specs.Tab.{with_options, is_dictionary}
use Rattle.rule_model.specs.Src.{src_options, is_plain, is_unicode}

-- whether a store with this name is defined
abbrev pub is_store : Program → List ℕ → Bool
is_store program name = is_some (position (λ (store : Store). same_name store.name name) (stores_of program))

-- whether a group with this name is defined
abbrev pub is_group : Program → List ℕ → Bool
is_group program name = is_some (position (λ (group : GroupDef). same_name group.name name) program.groups)

-- the stores of a program with their options
abbrev pub stated_stores : Program → List StoreMeaning
stated_stores program = with_options (src_options program) 0 (stores_of program)

-- whether no option store has this name
abbrev pub is_fixed : Program → List ℕ → Bool
is_fixed program name = not (is_some (option_number (stated_stores program) (Named name)))

-- whether the stores that a context item names are defined
abbrev pub is_known_pattern : Program → SrcItem → Bool
is_known_pattern program (source.Any store) = is_store program store
is_known_pattern program (source.NotAny store) = is_store program store
is_known_pattern program (source.Index store offset) = is_store program store
is_known_pattern program (source.Equal store value) = is_store program store
is_known_pattern program (source.Unequal store value) = is_store program store
is_known_pattern program item = true

-- whether the names in an output item are defined; `index` at the key's offset, which is one after the `count` context items, does not
-- name an option
abbrev pub is_known_output : Program → ℕ → SrcItem → Bool
is_known_output program count (source.Index store offset) =
    if nat_eq offset (count + 1) then is_fixed program store else is_store program store
is_known_output program count (source.Enter group) = is_group program group
is_known_output program count (source.Set store value) = is_store program store
is_known_output program count (source.Save store) = is_store program store
is_known_output program count (source.Reset store) = is_store program store
is_known_output program count item = true

-- whether there are elements, and each of them can be a key
abbrev pub are_keys : List Element → Bool
are_keys [] = false
are_keys (e ∷ elements) = list_all (λ e. is_some (key_of_element e)) (e ∷ elements)

-- whether a rule has a key only in a group with keys, a key store is not an option, and its elements can be keys
abbrev pub is_known_key : Program → Bool → Option SrcItem → Bool
is_known_key program using_keys None = true
is_known_key program using_keys (Some (source.Any store)) =
    using_keys && (is_fixed program store && are_keys (elements_named (stores_of program) store))
is_known_key program using_keys (Some item) = using_keys

-- whether the names in the items of a rule are defined, and a match or nomatch statement has no context
abbrev pub is_known_rule : Program → Bool → RuleDef → Bool
is_known_rule program using_keys rule =
    (is_plain rule || nat_eq (length rule.context) 0)
    && (list_all (is_known_pattern program) rule.context
    && (is_known_key program using_keys rule.key && list_all (is_known_output program (length rule.context)) rule.output))

-- whether the rules of a group have distinct lines, and the names in them are defined
abbrev pub is_known_group : Program → GroupDef → Bool
is_known_group program group = have_own_lines group.rules && list_all (is_known_rule program group.using_keys) group.rules

-- whether a name can be one of several names separated by spaces
abbrev pub is_word : List ℕ → Bool
is_word name = not (nat_eq (length name) 0) && (not (list_any (nat_eq 32) name) && is_utf8 name)

-- whether there is a start statement, and its group is defined
abbrev pub is_known_start : Program → Option BeginDef → Bool
is_known_start program None = false
is_known_start program (Some start) = is_group program start.group

-- a program whose tables keep its meaning: it has a Unicode start group, the names in its rules are defined, the names of its key
-- dictionary are words, and no store of a statement is a key dictionary
pub record IsWellNamed (program : Program) : Type 0 where
  pub start : is_known_start program (find is_unicode program.begins) ≡ true
  pub groups : list_all (is_known_group program) program.groups ≡ true
  pub words : list_all is_word (names_of program).keys ≡ true
  pub stores : list_any is_dictionary (stores_of program) ≡ false

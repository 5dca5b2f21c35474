-- W15: rules that put the character that their key produces without a rule.
use Rattle.std.specs.Prelude.{ℕ, ◌+◌, nat_eq, Bool, true, false, not, ◌&&◌, if◌then◌else◌, List, [], ◌∷◌, ◌++◌, flat_map, option_to_list, Option, Some, None}
use Rattle.std.specs.List.{list_all, list_any}
use Rattle.kmn_base.specs.declared.keys.KeyPress.{KeyPress}
use Rattle.kmn_base.specs.declared.keys.RuleKey.TheVariants.{Virtual}
use Rattle.virtual_keys.specs.Fits.{caps, char_of_press, key_fits, shift}
use Rattle.rule_model.specs.declared.program.SrcItem.{SrcItem}
use Rattle.rule_model.specs.declared.program.SrcItem.TheVariants as source
use Rattle.rule_model.specs.declared.program.RuleDef.{RuleDef}
use Rattle.rule_model.specs.declared.program.GroupDef.{GroupDef}
use Rattle.rule_model.specs.Src.{is_plain}
use Rattle.source_uses.specs.declared.contents.StoreElement.{StoreElement}
use Rattle.source_uses.specs.declared.contents.StoreElement.TheVariants as element
use Rattle.source_uses.specs.declared.contents.Contents.{Contents}
use Rattle.source_uses.specs.declared.used.Use.{Use}
use Rattle.source_uses.specs.Elements.{elements_named}
use Rattle.source_uses.specs.Uses.{new_uses}
use Rattle.virtual_keys.specs.declared.dictionary.TheConstants.{FIRST_OWN_CODE}
use Rattle.source_warnings.specs.Keys.{characters_below}
use Rattle.name_warnings.specs.declared.warning.Warning.{Warning}
use Rattle.name_warnings.specs.declared.warning.WarningKind.TheVariants as kind

abbrev pub has_no_items : List SrcItem → Bool
has_no_items [] = true
has_no_items (item ∷ items) = false

-- the characters of the presses without control and alt that a virtual key takes
abbrev pub press_characters : ℕ → ℕ → ℕ → List ℕ
press_characters flags code mods =
    let press : KeyPress = record { code = code; mods = mods } in
    if key_fits (Virtual flags code) press then option_to_list (char_of_press press) else []

abbrev pub code_characters : ℕ → ℕ → List ℕ
code_characters flags code =
    press_characters flags code 0
    ++ (press_characters flags code shift ++ (press_characters flags code caps ++ press_characters flags code (shift + caps)))

-- the characters that a single key takes, and those that an element of a key store takes
abbrev pub item_characters : Option SrcItem → List ℕ
item_characters (Some (source.Char c)) = c ∷ []
item_characters (Some (source.Key key)) = code_characters key.flags key.code
item_characters other = []

abbrev pub element_characters : StoreElement → List ℕ
element_characters (element.Char c) = c ∷ []
element_characters (element.Key key) = code_characters key.flags key.code
element_characters (element.Mark name) = []

abbrev pub elements_characters : List StoreElement → List ℕ
elements_characters elements = flat_map element_characters elements

-- the characters that the single keys of rules without a context take, and the key stores of such rules
abbrev pub rule_characters : RuleDef → List ℕ
rule_characters rule = if has_no_items rule.context then item_characters rule.key else []

abbrev pub free_characters : List RuleDef → List ℕ
free_characters rules = flat_map rule_characters rules

abbrev pub key_stores : ℕ → Option SrcItem → List Use
key_stores line (Some (source.Any store)) = record { line = line; name = store } ∷ []
key_stores line other = []

abbrev pub rule_stores : RuleDef → List Use
rule_stores rule = if has_no_items rule.context then key_stores rule.line rule.key else []

abbrev pub free_stores : List RuleDef → List Use
free_stores rules = flat_map rule_stores rules

abbrev pub store_characters : Contents → Use → List ℕ
store_characters contents found = elements_characters (elements_named contents found.name)

-- the characters that rules without a context take: by single keys, then by each key store at its first rule
abbrev pub group_characters : Contents → List RuleDef → List ℕ
group_characters contents rules = free_characters rules ++ flat_map (store_characters contents) (new_uses [] (free_stores rules))

-- the characters that are in a list more than once, if some were seen before it, once or again
abbrev pub with_character : List ℕ → ℕ → List ℕ
with_character characters c = if list_any (nat_eq c) characters then characters else characters ++ c ∷ []

abbrev pub with_repeated : List ℕ → List ℕ → ℕ → List ℕ
with_repeated once again c = if list_any (nat_eq c) once then with_character again c else again

abbrev pub repeated_after : List ℕ → List ℕ → List ℕ → List ℕ
repeated_after once again [] = again
repeated_after once again (c ∷ characters) = repeated_after (with_character once c) (with_repeated once again c) characters

-- whether a character is among those that presses produce, and not among others
abbrev pub is_lone : List ℕ → List ℕ → ℕ → Bool
is_lone pressed again c = list_any (nat_eq c) pressed && not (list_any (nat_eq c) again)

-- whether an output is the character of a key
abbrev pub puts_key : List ℕ → List ℕ → Option SrcItem → List SrcItem → Bool
puts_key pressed again (Some (source.Char c)) (source.Char put ∷ []) = nat_eq c put && is_lone pressed again c
puts_key pressed again key output = false

abbrev pub rule_same : List ℕ → List ℕ → RuleDef → List Warning
rule_same pressed again rule =
    if has_no_items rule.context && puts_key pressed again rule.key rule.output
    then record { line = rule.line; kind = kind.KeyGivesTheSame } ∷ []
    else []

-- whether there is no match and no nomatch statement
abbrev pub are_plain_rules : List RuleDef → Bool
are_plain_rules rules = list_all is_plain rules

-- W15: in a group with keys and with rules only, the rules without a context that put the character of their key, which no other rule
-- without a context takes
abbrev pub same_in_group : List ℕ → Contents → GroupDef → List Warning
same_in_group pressed contents group =
    if group.using_keys && are_plain_rules group.rules
    then flat_map (rule_same pressed (repeated_after [] [] (group_characters contents group.rules))) group.rules
    else []

abbrev pub same_keys : Contents → List GroupDef → List Warning
same_keys contents groups = flat_map (same_in_group (characters_below FIRST_OWN_CODE) contents) groups

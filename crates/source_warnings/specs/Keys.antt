-- W13: keys that no key press produces.
use Rattle.std.specs.Prelude.{ℕ, zero, suc, nat_eq, Bool, false, not, ◌&&◌, if◌then◌else◌, List, [], ◌∷◌, ◌++◌, length, flat_map, Option, Some, None}
use Rattle.std.specs.List.{count_by, list_any}
use Rattle.kmn_base.specs.declared.keys.KeyPress.{KeyPress}
use Rattle.virtual_keys.specs.declared.dictionary.TheConstants.{FIRST_OWN_CODE}
use Rattle.virtual_keys.specs.Fits.{caps, char_of_press, has, no_caps, shift}
use Rattle.rule_model.specs.declared.program.SrcItem.{SrcItem}
use Rattle.rule_model.specs.declared.program.SrcItem.TheVariants as source
use Rattle.rule_model.specs.declared.program.RuleDef.{RuleDef}
use Rattle.rule_model.specs.declared.program.GroupDef.{GroupDef}
use Rattle.rule_model.specs.declared.program.Program.{Program}
use Rattle.source_uses.specs.declared.contents.StoreElement.{StoreElement}
use Rattle.source_uses.specs.declared.contents.StoreElement.TheVariants as element
use Rattle.source_uses.specs.declared.contents.Contents.{Contents}
use Rattle.source_uses.specs.declared.used.Part.TheVariants as part
use Rattle.source_uses.specs.declared.used.Role.TheVariants as role
use Rattle.source_uses.specs.declared.used.Use.{Use}
use Rattle.source_uses.specs.Elements.{elements_named}
use Rattle.source_uses.specs.Uses.{new_uses, rule_uses}
use Rattle.name_warnings.specs.declared.warning.Warning.{Warning}
use Rattle.name_warnings.specs.declared.warning.WarningKind.TheVariants as kind

-- characters with another, which goes last if it is new
abbrev pub with_character : List ℕ → Option ℕ → List ℕ
with_character characters None = characters
with_character characters (Some c) = if list_any (nat_eq c) characters then characters else characters ++ c ∷ []

-- characters with that of a press, and with those of a key without and with shift; caps lock only exchanges these two
abbrev pub with_press : List ℕ → KeyPress → List ℕ
with_press characters press = with_character characters (char_of_press press)

abbrev pub with_code : List ℕ → ℕ → List ℕ
with_code characters code = with_press (with_press characters (record { code = code; mods = 0 })) (record { code = code; mods = shift })

-- the characters of the keys with codes below a number
unfoldable pub characters_below : ℕ → List ℕ
characters_below zero = []
characters_below (suc code) = with_code (characters_below code) code

-- whether flags require caps lock on and off
abbrev pub is_split : ℕ → Bool
is_split flags = has flags caps && has flags no_caps

-- whether no press produces the key of a rule, or an element of a key store, if presses produce these characters
abbrev pub is_missed : List ℕ → Option SrcItem → Bool
is_missed characters (Some (source.Char c)) = not (list_any (nat_eq c) characters)
is_missed characters (Some (source.Key key)) = is_split key.flags
is_missed characters other = false

abbrev pub is_element_missed : List ℕ → StoreElement → Bool
is_element_missed characters (element.Char c) = not (list_any (nat_eq c) characters)
is_element_missed characters (element.Key key) = is_split key.flags
is_element_missed characters (element.Mark name) = false

-- the rules whose key no press produces
abbrev pub rule_keys : List ℕ → RuleDef → List Warning
rule_keys characters rule =
    if is_missed characters rule.key then record { line = rule.line; kind = kind.KeyNeverPressed } ∷ [] else []

abbrev pub group_keys : List ℕ → GroupDef → List Warning
group_keys characters group = flat_map (rule_keys characters) group.rules

abbrev pub all_keys : List ℕ → List GroupDef → List Warning
all_keys characters groups = flat_map (group_keys characters) groups

-- the warning at the use of a key store, some keys of which no press produces
abbrev pub missed_keys : Use → ℕ → ℕ → List Warning
missed_keys found count keys =
    if nat_eq count 0 then [] else record { line = found.line; kind = kind.KeysNeverPressed found.name count keys } ∷ []

abbrev pub store_keys : List ℕ → Contents → Use → List Warning
store_keys characters contents found =
    missed_keys found (count_by (is_element_missed characters) (elements_named contents found.name)) (length (elements_named contents found.name))

abbrev pub stores_keys : List ℕ → Contents → List Use → List Warning
stores_keys characters contents stores = flat_map (store_keys characters contents) stores

-- W13: keys that no press produces, then stores with such keys, each at the first rule whose key it is
abbrev pub keys_never_pressed : Contents → Program → List Warning
keys_never_pressed contents program =
    all_keys (characters_below FIRST_OWN_CODE) program.groups
    ++ stores_keys (characters_below FIRST_OWN_CODE) contents (new_uses [] (rule_uses role.Elements part.Key program))

-- The texts of items and lines, as they are appended one by one.
use Rattle.std.specs.Prelude.{ℕ, ◌+◌, nat_eq, bit_and, if◌then◌else◌, List, [], ◌∷◌, ◌++◌, codes, Option, Some, None, slice_get, unwrap_or}
use Rattle.std.specs.List.{filter_map, range_with_len}
use Rattle.std.specs.Fmt.{decimal}
use Rattle.kmn_base.specs.declared.items.Element.{Element}
use Rattle.kmn_base.specs.declared.keys.RuleKey.{RuleKey}
use Rattle.rule_model.specs.declared.system.TheConstants.{NO_GROUP}
use Rattle.rule_model.specs.declared.tables.Pat.{Pat}
use Rattle.rule_model.specs.declared.tables.Out.{Out}
use Rattle.rule_model.specs.declared.tables.Rule.{Rule}
use Rattle.rule_model.specs.declared.tables.Store.{Store}
use Rattle.rule_model.specs.declared.tables.Group.{Group}
use Rattle.rule_model.specs.Tab.{element_char}
use Rattle.kmn_parser.specs.Printed.{printed}
use Rattle.kmn_parser.specs.Items.{item_pieces, key_pieces, value_token}
use Rattle.kmn_parser.specs.Statements.{key_part, system_name}
use Rattle.kmx_format.specs.Versions.{version_text}
use Rattle.decompile_program.specs.Items.{Names, group_called, key_called, back_element, back_pattern, back_output, back_key}

-- the characters of a value in quotes: `'` if they contain a `"`, else `"`
unfoldable pub quoted_text : List Element → List ℕ
quoted_text elements = (value_token (filter_map element_char elements)).text

-- a word and a name in parentheses, an `index`, and a comparison or an assignment
abbrev pub call_text : (word name : List ℕ) → List ℕ
call_text word name = word ++ 40 ∷ (name ++ 41 ∷ [])

abbrev pub index_text : (name : List ℕ) → ℕ → List ℕ
index_text name offset = codes "index(" ++ (name ++ 44 ∷ (decimal offset ++ 41 ∷ []))

abbrev pub compared_text : (word name sign : List ℕ) → List Element → List ℕ
compared_text word name sign value = word ++ 40 ∷ (name ++ 32 ∷ (sign ++ 32 ∷ (quoted_text value ++ 41 ∷ [])))

-- the word of a flag and a space, if the flag is set
abbrev pub flag_text : ℕ → List ℕ → ℕ → List ℕ
flag_text flags word flag = if nat_eq (bit_and flags flag) 0 then [] else word ++ 32 ∷ []

-- the text of a virtual key, of an element, of an item of a context and of an item of an output
unfoldable pub virtual_text : Names → (flags code : ℕ) → List ℕ
virtual_text names flags code = printed (key_pieces (key_called names flags code))

unfoldable pub element_text : Names → Element → List ℕ
element_text names element = printed (item_pieces (back_element names element))

unfoldable pub pattern_text : Names → Pat → List ℕ
pattern_text names pattern = printed (item_pieces (back_pattern names pattern))

unfoldable pub output_text : Names → Out → List ℕ
output_text names output = printed (item_pieces (back_output names output))

-- the key of a record with its plus, which is empty for a record of a group without keys
unfoldable pub key_text : Names → RuleKey → List ℕ
key_text names key = printed (key_part (back_key names key) [])

-- elements with a space before each, items of a context with a space after each, items of an output with a space before each
abbrev pub elements_text : Names → List Element → List ℕ
elements_text names [] = []
elements_text names (element ∷ elements) = 32 ∷ (element_text names element ++ elements_text names elements)

abbrev pub context_text : Names → List Pat → List ℕ
context_text names [] = []
context_text names (pattern ∷ patterns) = pattern_text names pattern ++ 32 ∷ context_text names patterns

abbrev pub outputs_text : Names → List Out → List ℕ
outputs_text names [] = []
outputs_text names (output ∷ outputs) = 32 ∷ (output_text names output ++ outputs_text names outputs)

-- the output of a record, which is `nul` if it is empty
abbrev pub some_outputs_text : Names → List Out → List ℕ
some_outputs_text names [] = codes " nul"
some_outputs_text names (output ∷ outputs) = outputs_text names (output ∷ outputs)

-- the line of a record, and the lines of records
unfoldable pub rule_text : Names → Rule → List ℕ
rule_text names rule = context_text names rule.context ++ (key_text names rule.key ++ 62 ∷ (some_outputs_text names rule.output ++ 10 ∷ []))

abbrev pub rules_text : Names → List Rule → List ℕ
rules_text names [] = []
rules_text names (rule ∷ rules) = rule_text names rule ++ rules_text names rules

-- a match or nomatch line, if the output is not empty
abbrev pub statement_text : Names → (word : List ℕ) → List Out → List ℕ
statement_text names word [] = []
statement_text names word (output ∷ outputs) = word ++ (codes " >" ++ (outputs_text names (output ∷ outputs) ++ 10 ∷ []))

-- the rest of a group's line after the name
abbrev pub keys_text : Group → List ℕ
keys_text group = if group.using_keys then codes " using keys\n" else codes "\n"

-- the lines of a group, and of groups that are numbered from `n` on
unfoldable pub group_text : Names → (name : List ℕ) → Group → List ℕ
group_text names name group =
    call_text (codes "group") name ++ (keys_text group ++ (rules_text names group.rules
    ++ (statement_text names (codes "match") group.on_match ++ statement_text names (codes "nomatch") group.on_nomatch)))

abbrev pub groups_text : Names → ℕ → List Group → List ℕ
groups_text names n [] = []
groups_text names n (group ∷ groups) = group_text names (group_called names n) group ++ groups_text names (n + 1) groups

-- the line of a store with this name, or with the name of its system id if it has one
unfoldable pub store_text : Names → (name : List ℕ) → Store → List ℕ
store_text names name store =
    call_text (codes "store") (if nat_eq store.system 0 then name else system_name store.system) ++ (elements_text names store.elements ++ 10 ∷ [])

-- the line of a store if the text contains the store
abbrev pub if_called : Names → Option (List ℕ) → Store → List ℕ
if_called names None store = []
if_called names (Some name) store = store_text names name store

-- the lines of stores that are numbered from `n` on
abbrev pub stores_text : Names → ℕ → List Store → List ℕ
stores_text names n [] = []
stores_text names n (store ∷ stores) = if_called names (unwrap_or (slice_get names.stores n) None) store ++ stores_text names (n + 1) stores

-- a begin statement, and all begin statements
unfoldable pub begin_text : (kind name : List ℕ) → List ℕ
begin_text kind name = codes "begin " ++ (kind ++ (codes " > " ++ (call_text (codes "use") name ++ 10 ∷ [])))

abbrev pub begins_text : Names → (unicode ansi : ℕ) → List ℕ
begins_text names unicode ansi =
    begin_text (codes "Unicode") (group_called names unicode)
    ++ (if nat_eq ansi NO_GROUP then [] else begin_text (codes "ANSI") (group_called names ansi))

-- the line of a version
abbrev pub version_line : ℕ → List ℕ
version_line version = codes "store(&version) \"" ++ (version_text version ++ codes "\"\n")

-- the line of a store of the deadkeys up to a number, and the line of a store of keys, if there are any
abbrev pub marks_text : List ℕ → List ℕ
marks_text [] = []
marks_text (mark ∷ marks) = codes " dk(" ++ (decimal mark ++ 41 ∷ marks_text marks)

abbrev pub mark_line : (name : List ℕ) → ℕ → List ℕ
mark_line name count = if nat_eq count 0 then [] else call_text (codes "store") name ++ (marks_text (range_with_len 1 count) ++ 10 ∷ [])

abbrev pub keys_line : List (List ℕ) → List ℕ
keys_line [] = []
keys_line (key ∷ keys) = codes " [" ++ (key ++ 93 ∷ keys_line keys)

abbrev pub key_line : (name : List ℕ) → List (List ℕ) → List ℕ
key_line name [] = []
key_line name (key ∷ keys) = call_text (codes "store") name ++ (keys_line (key ∷ keys) ++ 10 ∷ [])

-- The bytes of a `.kmx` file: header, store array, group array, key arrays, strings and picture, without gaps and without overlaps.
-- Numbers are little-endian, and offsets count from the file's start.
use Rattle.std.specs.Prelude.{ℕ, ◌+◌, ◌*◌, Bool, if◌then◌else◌, List, [], ◌∷◌, ◌++◌, length}
use Rattle.std.specs.List.{flat_map}
use Rattle.std.specs.Int.{w16, w32, to_le_bytes}
use Rattle.kmn_base.specs.declared.keys.RuleKey.{RuleKey}
use Rattle.kmn_base.specs.declared.keys.RuleKey.TheVariants.{Any, Char, Virtual}
use Rattle.kmn_base.specs.Spelling.{unit_bytes}
use Rattle.rule_model.specs.declared.tables.Rule.{Rule}
use Rattle.rule_model.specs.declared.tables.Store.{Store}
use Rattle.rule_model.specs.declared.tables.Group.{Group}
use Rattle.rule_model.specs.declared.tables.Tables.{Tables}
use Rattle.kmx_format.specs.declared.places.TheConstants.{IDENTIFIER}
use Rattle.kmx_format.specs.declared.sizes.TheConstants.{HEADER_BYTES, STORE_BYTES, GROUP_BYTES, RULE_BYTES}
use Rattle.kmx_format.specs.FileUnits.{element_units, pattern_units, output_units, name_units}

-- a number in two bytes
unfoldable pub half : ℕ → List ℕ
half number = to_le_bytes w16 number

-- a number in four bytes
unfoldable pub word : ℕ → List ℕ
word number = to_le_bytes w32 number

-- numbers in four bytes each
abbrev pub words : List ℕ → List ℕ
words = flat_map word

-- a string: its units and a zero unit; an empty string has no bytes
unfoldable pub string : List ℕ → List ℕ
string [] = []
string (unit ∷ units) = unit_bytes (unit ∷ units) ++ unit_bytes (0 ∷ [])

-- the offset of a list in a file: its position, or 0 if the list is empty
abbrev pub offset_of : {X : Type 0} → List X → ℕ → ℕ
offset_of [] place = 0
offset_of (x ∷ xs) place = place

-- the strings of a store: its name and its elements
abbrev pub store_strings : Store → List ℕ
store_strings store = string (name_units store.name) ++ string (element_units store.elements)

-- the strings of a group: its name, its match output and its nomatch output
abbrev pub group_strings : Group → List ℕ
group_strings group = string (name_units group.name) ++ string (output_units group.on_match) ++ string (output_units group.on_nomatch)

-- the strings of a key record: its context and its output
abbrev pub rule_strings : Rule → List ℕ
rule_strings rule = string (pattern_units rule.context) ++ string (output_units rule.output)

-- the record of a store whose strings begin at a position
abbrev pub store_record : ℕ → Store → List ℕ
store_record place store =
    let name = name_units store.name in
    words (store.system ∷ offset_of name place ∷ offset_of (element_units store.elements) (place + length (string name)) ∷ [])

-- the store array, where the strings of each store follow those of the stores before it
abbrev pub store_records : ℕ → List Store → List ℕ
store_records place [] = []
store_records place (store ∷ stores) = store_record place store ++ store_records (place + length (store_strings store)) stores

-- whether a group uses keys, as a number
abbrev pub flag : Bool → ℕ
flag b = if b then 1 else 0

-- the record of a group whose key records and whose strings begin at these two positions
abbrev pub group_record : ℕ → ℕ → Group → List ℕ
group_record rules_place place group =
    let name = name_units group.name in
    let on_match = output_units group.on_match in
    words (offset_of name place ∷ offset_of group.rules rules_place ∷ offset_of on_match (place + length (string name))
    ∷ offset_of (output_units group.on_nomatch) (place + length (string name) + length (string on_match))
    ∷ length group.rules ∷ flag group.using_keys ∷ [])

-- the group array, where the records and strings of each group follow those of the groups before it
abbrev pub group_records : ℕ → ℕ → List Group → List ℕ
group_records rules_place place [] = []
group_records rules_place place (group ∷ groups) =
    group_record rules_place place group
    ++ group_records (rules_place + RULE_BYTES * length group.rules) (place + length (group_strings group)) groups

-- the first field of a key record: the character or the virtual key's code, and 0 in a group without keys
abbrev pub key_code : RuleKey → ℕ
key_code Any = 0
key_code (Char unit) = unit
key_code (Virtual flags code) = code

-- the shift flags of a key record; only a virtual key has flags
abbrev pub key_flags : RuleKey → ℕ
key_flags Any = 0
key_flags (Char unit) = 0
key_flags (Virtual flags code) = flags

-- a key record, with the offsets of its context and output
abbrev pub rule_fields : Rule → ℕ → ℕ → List ℕ
rule_fields rule context output = half (key_code rule.key) ++ half 0 ++ words (rule.line ∷ key_flags rule.key ∷ output ∷ context ∷ [])

-- a key record whose strings begin at a position
abbrev pub rule_record : ℕ → Rule → List ℕ
rule_record place rule =
    let context = pattern_units rule.context in
    rule_fields rule (offset_of context place) (offset_of (output_units rule.output) (place + length (string context)))

-- key records, where the strings of each follow those of the records before it
abbrev pub rule_records : ℕ → List Rule → List ℕ
rule_records place [] = []
rule_records place (rule ∷ rules) = rule_record place rule ++ rule_records (place + length (rule_strings rule)) rules

-- the key records of a group
abbrev pub rules_of : Group → List Rule
rules_of group = group.rules

-- the key records of all groups, group by group
abbrev pub all_rules : Tables → List Rule
all_rules tables = flat_map rules_of tables.groups

-- the position of the store array: after the header
abbrev pub stores_place : ℕ
stores_place = HEADER_BYTES

-- the position of the group array
abbrev pub groups_place : Tables → ℕ
groups_place tables = stores_place + STORE_BYTES * length tables.stores

-- the position of the key arrays
abbrev pub rules_place : Tables → ℕ
rules_place tables = groups_place tables + GROUP_BYTES * length tables.groups

-- the position of the strings of stores
abbrev pub store_strings_place : Tables → ℕ
store_strings_place tables = rules_place tables + RULE_BYTES * length (all_rules tables)

-- the position of the strings of groups
abbrev pub group_strings_place : Tables → ℕ
group_strings_place tables = store_strings_place tables + length (flat_map store_strings tables.stores)

-- the position of the strings of key records
abbrev pub rule_strings_place : Tables → ℕ
rule_strings_place tables = group_strings_place tables + length (flat_map group_strings tables.groups)

-- the position of the picture
abbrev pub picture_place : Tables → ℕ
picture_place tables = rule_strings_place tables + length (flat_map rule_strings (all_rules tables))

-- the words of the header: identifier, version, four ignored words, counts, arrays, start groups, flags, hotkey, picture
abbrev pub header_words : Tables → List ℕ → List ℕ
header_words tables picture =
    IDENTIFIER ∷ tables.version ∷ 0 ∷ 0 ∷ 0 ∷ 0
    ∷ length tables.stores ∷ length tables.groups
    ∷ offset_of tables.stores stores_place ∷ offset_of tables.groups (groups_place tables)
    ∷ tables.start_ansi ∷ tables.start_unicode ∷ 0 ∷ 0
    ∷ offset_of picture (picture_place tables) ∷ length picture ∷ []

-- the header
abbrev pub header : Tables → List ℕ → List ℕ
header tables picture = words (header_words tables picture)

-- the file of a keyboard's tables and a picture
unfoldable pub file_of : Tables → List ℕ → List ℕ
file_of tables picture =
    header tables picture
    ++ store_records (store_strings_place tables) tables.stores
    ++ group_records (rules_place tables) (group_strings_place tables) tables.groups
    ++ rule_records (rule_strings_place tables) (all_rules tables)
    ++ flat_map store_strings tables.stores
    ++ flat_map group_strings tables.groups
    ++ flat_map rule_strings (all_rules tables)
    ++ picture

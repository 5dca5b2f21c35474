-- The tables of bytes, each field read at its position. Bytes past the end are read as 0, and a string without a zero unit ends at the
-- last whole unit.
use Rattle.std.specs.Prelude.{ℕ, zero, suc, ◌+◌, ◌-◌, Bool, not, nat_eq, nat_le, if◌then◌else◌, List, [], ◌∷◌, length, take, drop, map, Option, Some, None}
use Rattle.std.specs.List.{filter_map}
use Rattle.std.specs.Int.{w16, w32, from_le_bytes}
use Rattle.std.specs.Str.{encode_utf8_all}
use Rattle.std.specs.Char.Utf16.{utf16_lossy_chars}
use Rattle.kmn_base.specs.declared.items.Element.{Element}
use Rattle.kmn_base.specs.declared.items.Element.TheVariants as element
use Rattle.kmn_base.specs.declared.keys.RuleKey.{RuleKey}
use Rattle.kmn_base.specs.declared.keys.RuleKey.TheVariants as key
use Rattle.kmn_base.specs.declared.units.UnitItem.{UnitItem}
use Rattle.kmn_base.specs.declared.units.UnitItem.TheVariants as spelled
use Rattle.kmn_base.specs.Spelling.{unit_bytes, whole_units}
use Rattle.item_codec.specs.declared.item_codes.TheConstants.{EQUAL, UNEQUAL}
use Rattle.item_codec.specs.Walk.{items_given, results_of}
use Rattle.rule_model.specs.declared.tables.Pat.{Pat}
use Rattle.rule_model.specs.declared.tables.Pat.TheVariants as pattern
use Rattle.rule_model.specs.declared.tables.Out.{Out}
use Rattle.rule_model.specs.declared.tables.Out.TheVariants as output
use Rattle.rule_model.specs.declared.tables.Rule.{Rule}
use Rattle.rule_model.specs.declared.tables.Store.{Store}
use Rattle.rule_model.specs.declared.tables.Group.{Group}
use Rattle.rule_model.specs.declared.tables.Tables.{Tables}
use Rattle.kmx_format.specs.declared.places.TheConstants.{GROUPS_AT, GROUP_COUNT_AT, GROUP_MATCH_AT, GROUP_NOMATCH_AT, GROUP_RULES_AT, GROUP_RULE_COUNT_AT, GROUP_USING_KEYS_AT, RULE_CONTEXT_AT, RULE_FLAGS_AT, RULE_LINE_AT, RULE_OUTPUT_AT, START_ANSI_AT, START_UNICODE_AT, STORES_AT, STORE_COUNT_AT, STORE_ELEMENTS_AT, STORE_NAME_AT, VERSION_AT}
use Rattle.kmx_format.specs.declared.sizes.TheConstants.{STORE_BYTES, GROUP_BYTES, RULE_BYTES}

-- the number in the two bytes at a position
unfoldable pub half_at : List ℕ → ℕ → ℕ
half_at bytes place = if nat_le (place + 2) (length bytes) then from_le_bytes w16 (take 2 (drop place bytes)) else 0

-- the number in the four bytes at a position
unfoldable pub word_at : List ℕ → ℕ → ℕ
word_at bytes place = if nat_le (place + 4) (length bytes) then from_le_bytes w32 (take 4 (drop place bytes)) else 0

-- the units before the first zero unit
abbrev pub before_zero : List ℕ → List ℕ
before_zero [] = []
before_zero (unit ∷ units) = if nat_eq unit 0 then [] else unit ∷ before_zero units

-- the units of the string at an offset; offset 0 is the empty string
unfoldable pub string_at : List ℕ → ℕ → List ℕ
string_at bytes offset = if nat_eq offset 0 then [] else before_zero (whole_units (drop offset bytes))

-- the items that units spell, up to the first position at which no item is spelled
unfoldable pub items_of : List ℕ → List UnitItem
items_of units = items_given (results_of (unit_bytes units))

-- the store element of a unit item
abbrev pub element_of_unit_item : UnitItem → Option Element
element_of_unit_item (spelled.Char c) = Some (element.Char c)
element_of_unit_item (spelled.Dead mark) = Some (element.Mark mark)
element_of_unit_item (spelled.Key flags code) = Some (element.Key flags code)
element_of_unit_item _ = None

-- a comparison
abbrev pub comparison_of : ℕ → ℕ → ℕ → Option Pat
comparison_of store comparison value =
    if nat_eq comparison UNEQUAL then Some (pattern.Unequal (store - 1) (value - 1))
    else if nat_eq comparison EQUAL then Some (pattern.Equal (store - 1) (value - 1))
    else None

abbrev pub system_comparison_of : ℕ → ℕ → ℕ → Option Pat
system_comparison_of system comparison value =
    if nat_eq comparison UNEQUAL then Some (pattern.SystemUnequal (system - 1) (value - 1))
    else if nat_eq comparison EQUAL then Some (pattern.SystemEqual (system - 1) (value - 1))
    else None

-- the context item of a unit item
abbrev pub pattern_of_unit_item : UnitItem → Option Pat
pattern_of_unit_item (spelled.Char c) = Some (pattern.Char c)
pattern_of_unit_item (spelled.Dead mark) = Some (pattern.Mark mark)
pattern_of_unit_item (spelled.Any store) = Some (pattern.Any (store - 1))
pattern_of_unit_item (spelled.NotAny store) = Some (pattern.NotAny (store - 1))
pattern_of_unit_item (spelled.Index store offset) = Some (pattern.Index (store - 1) offset)
pattern_of_unit_item (spelled.ContextAt offset) = Some (pattern.ContextAt offset)
pattern_of_unit_item (spelled.Test store comparison value) = comparison_of store comparison value
pattern_of_unit_item (spelled.SystemTest system comparison value) = system_comparison_of system comparison value
pattern_of_unit_item spelled.Nul = Some pattern.Nul
pattern_of_unit_item _ = None

-- the output item of a unit item
abbrev pub output_of_unit_item : UnitItem → Option Out
output_of_unit_item (spelled.Char c) = Some (output.Char c)
output_of_unit_item (spelled.Dead mark) = Some (output.Mark mark)
output_of_unit_item (spelled.Index store offset) = Some (output.Index (store - 1) offset)
output_of_unit_item spelled.Context = Some output.Context
output_of_unit_item (spelled.ContextAt offset) = Some (output.ContextAt offset)
output_of_unit_item (spelled.Enter group) = Some (output.Enter (group - 1))
output_of_unit_item (spelled.Set store value) = Some (output.Set (store - 1) (value - 1))
output_of_unit_item (spelled.SetSystem system value) = Some (output.SetSystem (system - 1) (value - 1))
output_of_unit_item (spelled.Save store) = Some (output.Save (store - 1))
output_of_unit_item (spelled.Reset store) = Some (output.Reset (store - 1))
output_of_unit_item spelled.Nul = Some output.Nul
output_of_unit_item spelled.Beep = Some output.Beep
output_of_unit_item spelled.Stop = Some output.Stop
output_of_unit_item _ = None

-- a name in UTF-8, read from UTF-16, with U+FFFD for an unpaired surrogate
unfoldable pub name_at : List ℕ → ℕ → List ℕ
name_at bytes offset = encode_utf8_all (utf16_lossy_chars (string_at bytes offset))

-- the elements of the string at an offset, without items that are not allowed in a store
abbrev pub elements_at : List ℕ → ℕ → List Element
elements_at bytes offset = filter_map element_of_unit_item (items_of (string_at bytes offset))

-- the context of the string at an offset, without items that are not allowed in one
abbrev pub patterns_at : List ℕ → ℕ → List Pat
patterns_at bytes offset = filter_map pattern_of_unit_item (items_of (string_at bytes offset))

-- the output of the string at an offset, without items that are not allowed in one
abbrev pub outputs_at : List ℕ → ℕ → List Out
outputs_at bytes offset = filter_map output_of_unit_item (items_of (string_at bytes offset))

-- the store whose record is at a position
abbrev pub store_at : List ℕ → ℕ → Store
store_at bytes place = record {
  system = word_at bytes place;
  name = name_at bytes (word_at bytes (place + STORE_NAME_AT));
  elements = elements_at bytes (word_at bytes (place + STORE_ELEMENTS_AT));
}

-- `count` stores, whose records follow one another
abbrev pub stores_from : List ℕ → ℕ → ℕ → List Store
stores_from bytes place zero = []
stores_from bytes place (suc count) = store_at bytes place ∷ stores_from bytes (place + STORE_BYTES) count

-- the key of a record: a character if it has no flags
abbrev pub key_of : Bool → ℕ → ℕ → RuleKey
key_of using_keys code flags =
    if not using_keys then key.Any
    else if nat_eq flags 0 then key.Char code
    else key.Virtual flags code

-- the key record at a position; a file does not contain the position in a key store
abbrev pub rule_at : List ℕ → Bool → ℕ → Rule
rule_at bytes using_keys place = record {
  line = word_at bytes (place + RULE_LINE_AT);
  place = 0;
  key = key_of using_keys (half_at bytes place) (word_at bytes (place + RULE_FLAGS_AT));
  context = patterns_at bytes (word_at bytes (place + RULE_CONTEXT_AT));
  output = outputs_at bytes (word_at bytes (place + RULE_OUTPUT_AT));
}

-- `count` key records, which follow one another
abbrev pub rules_from : List ℕ → Bool → ℕ → ℕ → List Rule
rules_from bytes using_keys place zero = []
rules_from bytes using_keys place (suc count) = rule_at bytes using_keys place ∷ rules_from bytes using_keys (place + RULE_BYTES) count

-- whether the group whose record is at a position uses keys
abbrev pub uses_keys_at : List ℕ → ℕ → Bool
uses_keys_at bytes place = not (nat_eq (word_at bytes (place + GROUP_USING_KEYS_AT)) 0)

-- the group whose record is at a position
abbrev pub group_at : List ℕ → ℕ → Group
group_at bytes place = record {
  name = name_at bytes (word_at bytes place);
  using_keys = uses_keys_at bytes place;
  rules = rules_from bytes (uses_keys_at bytes place) (word_at bytes (place + GROUP_RULES_AT)) (word_at bytes (place + GROUP_RULE_COUNT_AT));
  on_match = outputs_at bytes (word_at bytes (place + GROUP_MATCH_AT));
  on_nomatch = outputs_at bytes (word_at bytes (place + GROUP_NOMATCH_AT));
}

-- `count` groups, whose records follow one another
abbrev pub groups_from : List ℕ → ℕ → ℕ → List Group
groups_from bytes place zero = []
groups_from bytes place (suc count) = group_at bytes place ∷ groups_from bytes (place + GROUP_BYTES) count

-- the tables of bytes; the version is the low half of its word, since no version is larger
unfoldable pub tables_of : List ℕ → Tables
tables_of bytes = record {
  version = half_at bytes VERSION_AT;
  start_ansi = word_at bytes START_ANSI_AT;
  start_unicode = word_at bytes START_UNICODE_AT;
  stores = stores_from bytes (word_at bytes STORES_AT) (word_at bytes STORE_COUNT_AT);
  groups = groups_from bytes (word_at bytes GROUPS_AT) (word_at bytes GROUP_COUNT_AT);
}

-- a rule as in a file: without the position of its key in a key store
abbrev pub rule_without_place : Rule → Rule
rule_without_place rule = record rule { place = 0 }

-- a group as in a file
abbrev pub group_without_places : Group → Group
group_without_places group = record group { rules = map rule_without_place group.rules }

-- tables as in a file: without the positions of keys in key stores
abbrev pub no_places : Tables → Tables
no_places tables = record tables { groups = map group_without_places tables.groups }

-- Parts of a file by position; None if the position is outside.
use Rattle.std.specs.Prelude.{ℕ, ◌+◌, ◌*◌, Bool, false, nat_eq, nat_lt, nat_le, ◌&&◌, ◌||◌, if◌then◌else◌, List, [], ◌∷◌, length, drop, Option, Some, None}
use Rattle.kmn_base.specs.Spelling.{whole_units}
use Rattle.kmx_format.specs.declared.places.TheConstants.{GROUPS_AT, GROUP_COUNT_AT, GROUP_MATCH_AT, GROUP_NOMATCH_AT, GROUP_RULES_AT, GROUP_RULE_COUNT_AT, GROUP_USING_KEYS_AT, RULE_CONTEXT_AT, RULE_FLAGS_AT, RULE_LINE_AT, RULE_OUTPUT_AT, STORES_AT, STORE_COUNT_AT, STORE_ELEMENTS_AT, STORE_NAME_AT}
use Rattle.kmx_format.specs.declared.sizes.TheConstants.{GROUP_BYTES, RULE_BYTES, STORE_BYTES}
use Rattle.kmx_format.specs.TablesOf.{half_at, word_at}
use Rattle.kmx_view.specs.declared.parts.StoreRef.{StoreRef}
use Rattle.kmx_view.specs.declared.parts.GroupRef.{GroupRef}
use Rattle.kmx_view.specs.declared.parts.RuleRef.{RuleRef}

-- whether the file contains `size` bytes from a position on
abbrev pub is_within : List ℕ → ℕ → ℕ → Bool
is_within bytes place size = nat_le (place + size) (length bytes)

-- whether there is a zero unit among units
abbrev pub has_zero : List ℕ → Bool
has_zero [] = false
has_zero (unit ∷ units) = nat_eq unit 0 || has_zero units

-- whether the string at an offset ends in the file: it is the empty string, or there is a zero unit
abbrev pub is_ended : List ℕ → ℕ → Bool
is_ended bytes offset = nat_eq offset 0 || has_zero (whole_units (drop offset bytes))

abbrev pub word_in : List ℕ → ℕ → Option ℕ
word_in bytes place = if is_within bytes place 4 then Some (word_at bytes place) else None

abbrev pub store_count : List ℕ → ℕ
store_count bytes = word_at bytes STORE_COUNT_AT

abbrev pub group_count : List ℕ → ℕ
group_count bytes = word_at bytes GROUP_COUNT_AT

-- the positions of the records
abbrev pub store_place : List ℕ → ℕ → ℕ
store_place bytes i = word_at bytes STORES_AT + STORE_BYTES * i

abbrev pub group_place : List ℕ → ℕ → ℕ
group_place bytes i = word_at bytes GROUPS_AT + GROUP_BYTES * i

abbrev pub store_ref : List ℕ → ℕ → StoreRef
store_ref bytes place = record { system = word_at bytes place; name = word_at bytes (place + STORE_NAME_AT); string = word_at bytes (place + STORE_ELEMENTS_AT) }

abbrev pub group_ref : List ℕ → ℕ → GroupRef
group_ref bytes place = record {
  name = word_at bytes place;
  keys = word_at bytes (place + GROUP_RULES_AT);
  on_match = word_at bytes (place + GROUP_MATCH_AT);
  on_nomatch = word_at bytes (place + GROUP_NOMATCH_AT);
  count = word_at bytes (place + GROUP_RULE_COUNT_AT);
  using_keys = word_at bytes (place + GROUP_USING_KEYS_AT);
}

abbrev pub rule_ref : List ℕ → ℕ → RuleRef
rule_ref bytes place = record {
  key = half_at bytes place;
  line = word_at bytes (place + RULE_LINE_AT);
  flags = word_at bytes (place + RULE_FLAGS_AT);
  output = word_at bytes (place + RULE_OUTPUT_AT);
  context = word_at bytes (place + RULE_CONTEXT_AT);
}

abbrev pub store_in : List ℕ → ℕ → Option StoreRef
store_in bytes i =
    if nat_lt i (store_count bytes) && is_within bytes (store_place bytes i) STORE_BYTES then Some (store_ref bytes (store_place bytes i)) else None

abbrev pub group_in : List ℕ → ℕ → Option GroupRef
group_in bytes i =
    if nat_lt i (group_count bytes) && is_within bytes (group_place bytes i) GROUP_BYTES then Some (group_ref bytes (group_place bytes i)) else None

-- the record with a number in a group, if the group exists
abbrev pub rule_of : List ℕ → ℕ → Option GroupRef → Option RuleRef
rule_of bytes i None = None
rule_of bytes i (Some group) =
    if nat_lt i group.count && is_within bytes (group.keys + RULE_BYTES * i) RULE_BYTES then Some (rule_ref bytes (group.keys + RULE_BYTES * i)) else None

abbrev pub rule_in : List ℕ → ℕ → ℕ → Option RuleRef
rule_in bytes group i = rule_of bytes i (group_in bytes group)

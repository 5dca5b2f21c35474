-- The file with the nomatch outputs of its groups without keys set in place.
use Rattle.std.specs.Prelude.{ℕ, zero, suc, ◌+◌, ◌*◌, Bool, true, ◌&&◌, nat_lt, if◌then◌else◌, List, [], ◌∷◌, Option, Some, None}
use Rattle.rule_model.specs.declared.tables.Group.{Group}
use Rattle.kmx_format.specs.declared.places.TheConstants.{GROUPS_AT, GROUP_NOMATCH_AT, GROUP_RULES_AT, GROUP_RULE_COUNT_AT, RULE_OUTPUT_AT}
use Rattle.kmx_format.specs.declared.sizes.TheConstants.{GROUP_BYTES, RULE_BYTES}
use Rattle.kmx_format.specs.TablesOf.{word_at, uses_keys_at, tables_of}
use Rattle.kmx_view.specs.View.{group_count}
use Rattle.core_conversions.specs.Conversions.{nomatch_rule}
use Rattle.file_conversions.specs.Words.{with_word}

-- the offset of the output of the key record with a number, in the group at a position
abbrev pub output_word : List ℕ → ℕ → ℕ → ℕ
output_word bytes place rule = word_at bytes (word_at bytes (place + GROUP_RULES_AT) + RULE_BYTES * rule + RULE_OUTPUT_AT)

-- bytes in which the nomatch output of the group at a position is the output of the key record with a number, if there is a number
abbrev pub nomatch_from : List ℕ → ℕ → Option ℕ → List ℕ → List ℕ
nomatch_from bytes place None out = out
nomatch_from bytes place (Some rule) out =
    if nat_lt rule (word_at bytes (place + GROUP_RULE_COUNT_AT)) then with_word (place + GROUP_NOMATCH_AT) (output_word bytes place rule) out else out

-- bytes in which the nomatch outputs of groups are the outputs of the rules that `nomatch_rule` returns
abbrev pub nomatch_groups : List ℕ → ℕ → List Group → List ℕ → List ℕ
nomatch_groups bytes place [] out = out
nomatch_groups bytes place (group ∷ groups) out = nomatch_groups bytes (place + GROUP_BYTES) groups (nomatch_from bytes place (nomatch_rule group) out)

-- the file with these nomatch outputs
unfoldable pub nomatch_bytes : List ℕ → List ℕ
nomatch_bytes bytes = nomatch_groups bytes (word_at bytes GROUPS_AT) (tables_of bytes).groups bytes

-- whether all of a number of groups use keys
abbrev pub groups_use_keys : List ℕ → ℕ → ℕ → Bool
groups_use_keys bytes place zero = true
groups_use_keys bytes place (suc count) = uses_keys_at bytes place && groups_use_keys bytes (place + GROUP_BYTES) count

-- whether all groups of a file use keys. No nomatch output is set then
abbrev pub all_use_keys : List ℕ → Bool
all_use_keys bytes = groups_use_keys bytes (word_at bytes GROUPS_AT) (group_count bytes)

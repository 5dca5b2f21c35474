-- The file with the keys of its records converted in place.
use Rattle.std.specs.Prelude.{ℕ, zero, suc, ◌+◌, nat_eq, if◌then◌else◌, List}
use Rattle.kmx_format.specs.declared.places.TheConstants.{GROUPS_AT, GROUP_RULES_AT, GROUP_RULE_COUNT_AT, GROUP_USING_KEYS_AT, RULE_FLAGS_AT}
use Rattle.kmx_format.specs.declared.sizes.TheConstants.{GROUP_BYTES, RULE_BYTES}
use Rattle.kmx_format.specs.TablesOf.{word_at}
use Rattle.kmx_view.specs.View.{group_count}
use Rattle.core_conversions.specs.Conversions.{plain_flags}
use Rattle.file_conversions.specs.Words.{with_word}

-- bytes in which the flags of a key record are plain
abbrev pub plain_record : List ℕ → ℕ → List ℕ → List ℕ
plain_record bytes place out = with_word (place + RULE_FLAGS_AT) (plain_flags (word_at bytes (place + RULE_FLAGS_AT))) out

-- bytes in which the flags of a number of key records are plain
abbrev pub plain_records : List ℕ → ℕ → ℕ → List ℕ → List ℕ
plain_records bytes place zero out = out
plain_records bytes place (suc count) out = plain_records bytes (place + RULE_BYTES) count (plain_record bytes place out)

-- bytes in which the flags of all key records of a group are plain, if the group uses keys
abbrev pub plain_group : List ℕ → ℕ → List ℕ → List ℕ
plain_group bytes place out =
    if nat_eq (word_at bytes (place + GROUP_USING_KEYS_AT)) 0 then out
    else plain_records bytes (word_at bytes (place + GROUP_RULES_AT)) (word_at bytes (place + GROUP_RULE_COUNT_AT)) out

-- bytes in which the flags of all key records of a number of groups are plain
abbrev pub plain_groups : List ℕ → ℕ → ℕ → List ℕ → List ℕ
plain_groups bytes place zero out = out
plain_groups bytes place (suc count) out = plain_groups bytes (place + GROUP_BYTES) count (plain_group bytes place out)

-- the file with plain flags
unfoldable pub plain_bytes : List ℕ → List ℕ
plain_bytes bytes = plain_groups bytes (word_at bytes GROUPS_AT) (group_count bytes) bytes

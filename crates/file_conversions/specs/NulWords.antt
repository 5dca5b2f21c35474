-- The file with the `nul` items of its contexts moved in place.
use Rattle.std.specs.Prelude.{ℕ, zero, suc, ◌+◌, Bool, nat_eq, ◌||◌, if◌then◌else◌, List, ◌++◌, take, drop}
use Rattle.kmn_base.specs.declared.limits.TheConstants.{CONTEXT_ITEMS}
use Rattle.kmx_format.specs.declared.places.TheConstants.{GROUPS_AT, GROUP_RULES_AT, GROUP_RULE_COUNT_AT, RULE_CONTEXT_AT}
use Rattle.kmx_format.specs.declared.sizes.TheConstants.{GROUP_BYTES, RULE_BYTES}
use Rattle.kmx_format.specs.TablesOf.{word_at}
use Rattle.kmx_view.specs.View.{group_count}

-- whether `nul` is at a position: the sentinel FFFF and the code 04
abbrev pub is_nul_at : List ℕ → ℕ → Bool
is_nul_at bytes place = nat_eq (word_at bytes place) 0x0004_FFFF

-- whether a condition is at a position: the sentinel and one of the codes 14 and 17
abbrev pub is_condition_at : List ℕ → ℕ → Bool
is_condition_at bytes place = nat_eq (word_at bytes place) 0x0014_FFFF || nat_eq (word_at bytes place) 0x0017_FFFF

-- bytes in which the word after `size` bytes from a position on is before these bytes
unfoldable pub word_first : ℕ → ℕ → List ℕ → List ℕ
word_first place size bytes = take place bytes ++ (take 4 (drop (place + size) bytes) ++ (take size (drop place bytes) ++ drop (place + size + 4) bytes))

-- bytes in which each `nul` of a number of items from a position on is before the conditions. The conditions before the next item
-- have `size` bytes, and another item ends the walk
unfoldable pub nuls_first : ℕ → ℕ → ℕ → List ℕ → List ℕ
nuls_first zero place size bytes = bytes
nuls_first (suc count) place size bytes =
    if is_nul_at bytes (place + size) then nuls_first count (place + 4) size (word_first place size bytes)
    else if is_condition_at bytes (place + size) then nuls_first count place (size + 10) bytes
    else bytes

-- bytes in which the context at an offset has each `nul` before its first matched item before the conditions
unfoldable pub nul_first_context : ℕ → List ℕ → List ℕ
nul_first_context offset bytes = nuls_first CONTEXT_ITEMS offset 0 bytes

-- bytes with the context of a key record converted in this way. The record is read in the file
abbrev pub nul_first_record : List ℕ → ℕ → List ℕ → List ℕ
nul_first_record bytes place out = nul_first_context (word_at bytes (place + RULE_CONTEXT_AT)) out

-- bytes with the contexts of a number of key records converted
abbrev pub nul_first_records : List ℕ → ℕ → ℕ → List ℕ → List ℕ
nul_first_records bytes place zero out = out
nul_first_records bytes place (suc count) out = nul_first_records bytes (place + RULE_BYTES) count (nul_first_record bytes place out)

-- bytes with the contexts of all key records of a number of groups converted
abbrev pub nul_first_groups : List ℕ → ℕ → ℕ → List ℕ → List ℕ
nul_first_groups bytes place zero out = out
nul_first_groups bytes place (suc count) out =
    nul_first_groups bytes (place + GROUP_BYTES) count
    (nul_first_records bytes (word_at bytes (place + GROUP_RULES_AT)) (word_at bytes (place + GROUP_RULE_COUNT_AT)) out)

-- the file with its contexts converted
unfoldable pub nul_first_bytes : List ℕ → List ℕ
nul_first_bytes bytes = nul_first_groups bytes (word_at bytes GROUPS_AT) (group_count bytes) bytes

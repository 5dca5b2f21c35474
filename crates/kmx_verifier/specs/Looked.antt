-- The ranges of a file that some step reads.
use Rattle.std.specs.Prelude.{◌≡◌, ℕ, zero, suc, ◌+◌, ◌*◌, Bool, if◌then◌else◌, List, [], ◌∷◌, ◌++◌, length, take, drop}
use Rattle.std.specs.List.{All}
use Rattle.kmx_format.specs.declared.places.TheConstants.{GROUPS_AT, GROUP_MATCH_AT, GROUP_NOMATCH_AT, GROUP_RULES_AT, GROUP_RULE_COUNT_AT, IDENTIFIER_AT, PICTURE_AT, RULE_CONTEXT_AT, RULE_FLAGS_AT, RULE_OUTPUT_AT, STORES_AT, STORE_COUNT_AT, STORE_ELEMENTS_AT, STORE_NAME_AT}
use Rattle.kmx_format.specs.declared.sizes.TheConstants.{GROUP_BYTES, RULE_BYTES, STORE_BYTES}
use Rattle.kmx_format.specs.TablesOf.{word_at, string_at, uses_keys_at}
use Rattle.kmx_view.specs.View.{store_count, group_count}
use Rattle.kmx_verifier.specs.FaultOf.{fault_of}

-- a number of bytes from a place on
pub record Range : Type 0 where
  pub place : ℕ
  pub size : ℕ

-- the range of the string at an offset with its zero unit; a string that has no zero unit continues to the end of the file
abbrev pub string_range : List ℕ → ℕ → Range
string_range bytes offset = record { place = offset; size = 2 * length (string_at bytes offset) + 2 }

-- the ranges of the header, without checksum, keyboard id, registered, version of the keyboard and hotkey
abbrev pub header_looked : List Range
header_looked = record { place = IDENTIFIER_AT; size = 8 } ∷ record { place = STORE_COUNT_AT; size = 28 } ∷ record { place = PICTURE_AT; size = 8 } ∷ []

-- the ranges of a number of stores: the offsets of their strings, and the strings, but not their system ids
abbrev pub stores_looked : List ℕ → ℕ → ℕ → List Range
stores_looked bytes place zero = []
stores_looked bytes place (suc count) =
    record { place = place + STORE_NAME_AT; size = 8 }
    ∷ string_range bytes (word_at bytes (place + STORE_NAME_AT)) ∷ string_range bytes (word_at bytes (place + STORE_ELEMENTS_AT))
    ∷ stores_looked bytes (place + STORE_BYTES) count

-- the ranges of a number of key records: the flags if the group uses keys, the offsets of their strings, and the strings
abbrev pub records_looked : List ℕ → Bool → ℕ → ℕ → List Range
records_looked bytes using_keys place zero = []
records_looked bytes using_keys place (suc count) =
    (if using_keys then record { place = place + RULE_FLAGS_AT; size = 12 } else record { place = place + RULE_OUTPUT_AT; size = 8 })
    ∷ string_range bytes (word_at bytes (place + RULE_CONTEXT_AT)) ∷ string_range bytes (word_at bytes (place + RULE_OUTPUT_AT))
    ∷ records_looked bytes using_keys (place + RULE_BYTES) count

-- the ranges of a number of groups: their records and strings, and their key records
abbrev pub groups_looked : List ℕ → ℕ → ℕ → List Range
groups_looked bytes place zero = []
groups_looked bytes place (suc count) =
    record { place = place; size = GROUP_BYTES }
    ∷ string_range bytes (word_at bytes place) ∷ string_range bytes (word_at bytes (place + GROUP_MATCH_AT)) ∷ string_range bytes (word_at bytes (place + GROUP_NOMATCH_AT))
    ∷ (records_looked bytes (uses_keys_at bytes place) (word_at bytes (place + GROUP_RULES_AT)) (word_at bytes (place + GROUP_RULE_COUNT_AT))
    ++ groups_looked bytes (place + GROUP_BYTES) count)

-- all ranges of a file that some step reads
abbrev pub looked_at : List ℕ → List Range
looked_at bytes =
    header_looked
    ++ (stores_looked bytes (word_at bytes STORES_AT) (store_count bytes) ++ groups_looked bytes (word_at bytes GROUPS_AT) (group_count bytes))

-- two files have the same bytes in a range
abbrev pub IsSameAt : List ℕ → List ℕ → Range → Type 0
IsSameAt bytes other range = take range.size (drop range.place bytes) ≡ take range.size (drop range.place other)

-- if two files of the same length have the same bytes in all ranges that a step reads, they have the same first fault
abbrev pub OtherBytesChangeNothing : Type 0
OtherBytesChangeNothing = (bytes other : List ℕ) → length bytes ≡ length other → All (IsSameAt bytes other) (looked_at bytes) → fault_of bytes ≡ fault_of other

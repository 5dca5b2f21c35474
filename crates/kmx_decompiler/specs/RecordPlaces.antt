-- The places of the records of groups in a file.
use Rattle.std.specs.Prelude.{ℕ, ◌+◌, ◌*◌, ◌<◌, ◌^◌, List, [], ◌∷◌, length}
use Rattle.rule_model.specs.declared.tables.Group.{Group}
use Rattle.kmx_format.specs.declared.places.TheConstants.{GROUP_RULES_AT}
use Rattle.kmx_format.specs.declared.sizes.TheConstants.{GROUP_BYTES, RULE_BYTES}
use Rattle.kmx_format.specs.TablesOf.{word_at}

-- the records of groups, which begin at `place`, and the key records of each group end at offsets that fit in four bytes
abbrev pub HaveNearRecords : List ℕ → ℕ → List Group → Type 0
HaveNearRecords bytes place [] = Unit {0}
HaveNearRecords bytes place (group ∷ groups) =
    (place + GROUP_BYTES < 2 ^ 32) × (word_at bytes (place + GROUP_RULES_AT) + RULE_BYTES * length group.rules < 2 ^ 32)
    × HaveNearRecords bytes (place + GROUP_BYTES) groups

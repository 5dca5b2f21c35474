-- Plain flags in place keep the number of bytes.
use Rattle.std.proofs.Common.{◌≡◌, ℕ, zero, suc, ◌+◌, Bool, true, false, List, length, nat_eq, refl, ◌∙◌, if◌then◌else◌}
use Rattle.kmx_format.specs.declared.places.TheConstants.{GROUPS_AT}
use Rattle.kmx_format.specs.TablesOf.{word_at}
use Rattle.kmx_view.specs.View.{group_count}
use Rattle.core_conversions.specs.Conversions.{plain_flags}
use Rattle.file_conversions.specs.PlainFlags.{plain_record, plain_records, plain_group, plain_groups, plain_bytes}
use Rattle.file_conversions.proofs.ReplacedWords.{length-with_word}

module _ (bytes : List ℕ) where
  records_size : (place count : ℕ) (out : List ℕ) → length (plain_records bytes place count out) ≡ length out
  records_size place zero out = refl
  records_size place (suc count) out =
      records_size (place + 20) count (plain_record bytes place out) ∙ length-with_word (place + 8) (plain_flags (word_at bytes (place + 8))) out

  group_size : (place : ℕ) (out : List ℕ) → length (plain_group bytes place out) ≡ length out
  group_size place out = by_keys (nat_eq (word_at bytes (place + 20)) 0)
    where
      by_keys : (without_keys : Bool) → length (if without_keys then out else plain_records bytes (word_at bytes (place + 4)) (word_at bytes (place + 16)) out) ≡ length out
      by_keys true = refl
      by_keys false = records_size (word_at bytes (place + 4)) (word_at bytes (place + 16)) out

  groups_size : (place count : ℕ) (out : List ℕ) → length (plain_groups bytes place count out) ≡ length out
  groups_size place zero out = refl
  groups_size place (suc count) out = groups_size (place + 24) count (plain_group bytes place out) ∙ group_size place out

pub plain_size : (bytes : List ℕ) → length (plain_bytes bytes) ≡ length bytes
unfolding plain_bytes
plain_size bytes = groups_size bytes (word_at bytes GROUPS_AT) (group_count bytes) bytes

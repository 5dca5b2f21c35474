-- Where a word, a line or a token of a text ends.
use Rattle.std.proofs.Common.{◌≡◌, ℕ, Bool, not, List, length, arith}
use Rattle.std.proofs.lemmas.Grind.{common_steps}
use Rattle.std.proofs.lemmas.List.Sums.{prefix_len-le-length}
use Rattle.std.specs.Prelude.{position, unwrap_or}
use Rattle.std.specs.List.{position_or_len}

-- `position_or_len` is the position of the first byte of a kind, or the length of the text if there is no such byte
pub place_of_first : (kind : ℕ → Bool) (text : List ℕ) → unwrap_or (position kind text) (length text) ≡ position_or_len kind text
place_of_first kind text = grind (arith, common_steps, prefix_len-le-length (λ c. not (kind c)) text)

-- Replacement of words of a file in place.
use Rattle.std.specs.Prelude.{ℕ, ◌+◌, nat_le, if◌then◌else◌, List, ◌++◌, length, take, drop}
use Rattle.kmx_format.specs.File.{word}

-- the bytes with the word at a place replaced by a number, or the unchanged bytes if they do not contain the whole word
unfoldable pub with_word : ℕ → ℕ → List ℕ → List ℕ
with_word place number bytes =
    if nat_le (place + 4) (length bytes) then take place bytes ++ (word number ++ drop (place + 4) bytes) else bytes

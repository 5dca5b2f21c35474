-- The rest of a text after a group while its groups are taken one by one.
use Rattle.std.specs.Prelude.{ℕ, ◌+◌, List, [], length, Option, Some, None}
use Rattle.virtual_keys.specs.Dictionary.{groups}

-- the groups of the rest; there is no rest after the last group
abbrev pub groups_behind : Option (List ℕ) → List (List ℕ)
groups_behind None = []
groups_behind (Some text) = groups text

-- the number of bytes of the rest, including the _ before it
abbrev pub bytes_behind : Option (List ℕ) → ℕ
bytes_behind None = 0
bytes_behind (Some text) = length text + 1

-- The order of work as a value: which file is read first, and how the work continues with what was read.
use Rattle.std.specs.Prelude.{ℕ, ◌+◌, nat_lt, length, if◌then◌else◌, List, [], ◌∷◌, Option, Some, option_and_then, Result, Ok, Err}
use Rattle.std.specs.Option.{option_map_or}
use Rattle.kmn_outside.specs.Outside.{Files}
use Rattle.keyman_words.specs.declared.reason.Reason.{Reason}
use Rattle.keyman_run.specs.Asked.{Ask, read_of}

-- the result of reading a file within a limit: its bytes, or a number if the file has that number of bytes or more
pub data Reading : Type 0 where
  Bytes : List ℕ → Reading
  Over : ℕ → Reading

-- work that produces a value: it has it, or is refused, or reads the file of a name within a limit and continues with the result
pub data Work (A : Type 0) : Type 0 where
  Give : A → Work A
  Refuse : Reason → Work A
  Read : (name : List ℕ) → (limit : ℕ) → (next : Reading → Work A) → Work A

-- the work that has the value of a result, or is refused for its reason
abbrev pub given : {A : Type 0} → Result A Reason → Work A
given (Ok value) = Give value
given (Err why) = Refuse why

-- work followed by more work, unless the first work is refused
abbrev pub and_then : {A B : Type 0} → Work A → (A → Work B) → Work B
and_then (Give value) more = more value
and_then (Refuse why) more = Refuse why
and_then (Read name limit next) more = Read name limit (λ reading. and_then (next reading) more)

-- the result of reading these bytes within a limit
abbrev pub reading_of : ℕ → List ℕ → Reading
reading_of limit bytes = if nat_lt limit (length bytes) then Over (limit + 1) else Bytes bytes

-- the reads of work, in order; if a file is missing, its read is the last one
abbrev pub reads : {A : Type 0} → Files → Work A → List Ask
reads files (Give value) = []
reads files (Refuse why) = []
reads files (Read name limit next) = read_of name ∷ option_map_or (λ bytes. reads files (next (reading_of limit bytes))) (files name) []

-- the result of work, or `None` if a file is missing
abbrev pub comes_to : {A : Type 0} → Files → Work A → Option (Result A Reason)
comes_to files (Give value) = Some (Ok value)
comes_to files (Refuse why) = Some (Err why)
comes_to files (Read name limit next) = option_and_then (λ bytes. comes_to files (next (reading_of limit bytes))) (files name)

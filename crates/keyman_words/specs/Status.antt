-- The result of a run as a number.
use Rattle.std.specs.Prelude.{ℕ}
use Rattle.keyman_words.specs.declared.status.Status.{Status}
use Rattle.keyman_words.specs.declared.status.Status.TheVariants.{Done, Refused, Words, ReadFault, WriteFault, Memory, ExpectFailed}

-- the exit status of the process
abbrev pub status_number : Status → ℕ
status_number Done = 0
status_number Refused = 1
status_number Words = 2
status_number ReadFault = 3
status_number WriteFault = 4
status_number Memory = 5
status_number ExpectFailed = 6

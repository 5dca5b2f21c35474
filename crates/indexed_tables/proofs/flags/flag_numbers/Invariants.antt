use Rattle.std.proofs.Common.{◌≡◌, ◌++◌, ◌≤◌, drop}
use Rattle.indexed_tables.specs.OptionFlags.{flag_numbers}
use Rattle.indexed_tables.proofs.flags.flag_numbers.Given as goal

abbrev pub invariant-loop-n : goal.invariant-loop-n
invariant-loop-n l = (l.count ≤ l.n) × (l.numbers.items ++ flag_numbers l.count (drop l.n l.flags) ≡ flag_numbers 0 l.flags)

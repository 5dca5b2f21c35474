use Rattle.std.proofs.Common.{◌≡◌, ◌+◌, ◌-◌, ◌≤◌, ◌++◌, length}
use Rattle.decompile_program.proofs.FreeNames.{free_from}
use Rattle.decompile_program.proofs.free_names.free_names.Given as goal

abbrev pub invariant-loop-before : goal.invariant-loop-before
invariant-loop-before l =
    (length l.free.items ≤ l.count)
    × (l.free.items ++ free_from l.letter l.taken (l.before + 1) (l.tries - l.before) ≡ free_from l.letter l.taken 1 l.tries)

use Rattle.std.proofs.Common.{◌≡◌, ◌++◌, drop}
use Rattle.plain_event.specs.PlainStates.{picked}
use Rattle.plain_event.proofs.values.picked.Given as goal

abbrev pub invariant-loop-n : goal.invariant-loop-n
invariant-loop-n g l = l.options.items ++ picked (drop l.n l.numbers) (drop l.n l.values) ≡ picked l.numbers l.values

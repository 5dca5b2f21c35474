use Rattle.std.proofs.Common.{◌≡◌, ◌++◌, drop}
use Rattle.plain_event.specs.PlainStates.{spread}
use Rattle.plain_event.proofs.values.spread.Given as goal

abbrev pub invariant-loop-n : goal.invariant-loop-n
invariant-loop-n g l = l.all.items ++ spread (drop l.n l.numbers) (drop l.n l.values) l.options ≡ spread l.numbers l.values l.options

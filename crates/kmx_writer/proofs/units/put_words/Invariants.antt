use Rattle.std.proofs.Common.{◌≡◌, ◌++◌, drop}
use Rattle.kmx_format.specs.File.{words}
use Rattle.kmx_writer.proofs.units.put_words.Given as goal

abbrev pub invariant-loop-number : goal.invariant-loop-number
invariant-loop-number l = l.out ++ words (drop l.number-index l.numbers) ≡ l.fn.out ++ words l.numbers

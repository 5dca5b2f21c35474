use Rattle.std.proofs.Common.{◌≡◌, ◌++◌, drop}
use Rattle.std.specs.Str.{all_scalars}
use Rattle.curlew_calls.proofs.numbers.characters.Given as goal

abbrev pub invariant-loop-number : goal.invariant-loop-number
invariant-loop-number l = record {
  same : l.text.items ++ drop l.number-index l.numbers ≡ l.numbers;
  fine : all_scalars (drop l.number-index l.numbers) ≡ all_scalars l.numbers;
}

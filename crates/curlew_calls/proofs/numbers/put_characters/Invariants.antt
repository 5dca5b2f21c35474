use Rattle.std.proofs.Common.{◌≡◌, ◌++◌, length, take, drop}
use Rattle.curlew_calls.specs.Numbers.{written}
use Rattle.curlew_calls.proofs.numbers.put_characters.Given as goal

abbrev pub invariant-loop-place : goal.invariant-loop-place
invariant-loop-place l = record {
  room : length l.room ≡ length l.fn.room;
  same : take l.place l.room ++ written (drop l.place l.text) (drop l.place l.room) ≡ written l.text l.fn.room;
}

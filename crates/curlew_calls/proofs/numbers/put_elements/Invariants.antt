use Rattle.std.proofs.Common.{◌≡◌, ◌++◌, length, take, drop}
use Rattle.curlew_calls.specs.Numbers.{written, element_numbers}
use Rattle.curlew_calls.proofs.numbers.put_elements.Given as goal

abbrev pub invariant-loop-place : goal.invariant-loop-place
invariant-loop-place l = record {
  room : length l.room ≡ length l.fn.room;
  same : take l.place l.room ++ written (element_numbers (drop l.place l.elements)) (drop l.place l.room) ≡ written (element_numbers l.elements) l.fn.room;
}

use Rattle.std.proofs.Common.{◌≡◌, ◌++◌, length, take, drop}
use Rattle.curlew_calls.specs.Numbers.{written, item_numbers}
use Rattle.curlew_calls.proofs.numbers.put_items.Given as goal

abbrev pub invariant-loop-place : goal.invariant-loop-place
invariant-loop-place l = record {
  room : length l.room ≡ length l.fn.room;
  same : take l.place l.room ++ written (item_numbers (drop l.place l.items)) (drop l.place l.room) ≡ written (item_numbers l.items) l.fn.room;
}

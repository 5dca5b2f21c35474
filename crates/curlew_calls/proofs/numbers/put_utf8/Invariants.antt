use Rattle.std.proofs.Common.{◌≡◌, ◌+◌, ◌*◌, ◌≤◌, ◌++◌, length, take, drop, encode_utf8_all}
use Rattle.curlew_calls.specs.Numbers.{written}
use Rattle.curlew_calls.proofs.numbers.put_utf8.Given as goal

abbrev pub invariant-loop-c : goal.invariant-loop-c
invariant-loop-c l = record {
  few : l.end ≤ 4 * l.c-index;
  whole : l.end + length (encode_utf8_all (drop l.c-index l.text)) ≡ length (encode_utf8_all l.text);
  same : take l.end l.room ++ written (encode_utf8_all (drop l.c-index l.text)) (drop l.end l.room) ≡ written (encode_utf8_all l.text) l.fn.room;
}

use Rattle.std.proofs.Common.{◌≡◌, ◌+◌, ◌≤◌, drop}
use Rattle.refusal_places.specs.Bytes.{line_from}
use Rattle.refusal_places.proofs.bytes.line_behind.Given as goal

abbrev pub invariant-loop-byte : goal.invariant-loop-byte
invariant-loop-byte l = record {
  line : line_from l.line l.previous (drop l.byte-index l.text) ≡ line_from 1 0 l.text;
  within : l.line ≤ l.byte-index + 1;
}

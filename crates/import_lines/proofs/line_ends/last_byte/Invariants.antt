use Rattle.std.proofs.Common.{◌≡◌, drop}
use Rattle.kmn_lines.specs.Laws.{last_or}
use Rattle.import_lines.proofs.line_ends.last_byte.Given as goal

abbrev pub invariant-loop-byte : goal.invariant-loop-byte
invariant-loop-byte l = last_or l.last (drop l.byte-index l.bytes) ≡ last_or 0 l.bytes

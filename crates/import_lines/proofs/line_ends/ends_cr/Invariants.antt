use Rattle.std.proofs.Common.{◌≡◌, drop}
use Rattle.import_lines.specs.Written.{ends_cr}
use Rattle.import_lines.proofs.LineEnds.{cr_after}
use Rattle.import_lines.proofs.line_ends.ends_cr.Given as goal

abbrev pub invariant-loop-byte : goal.invariant-loop-byte
invariant-loop-byte l = cr_after l.is_cr (drop l.byte-index l.bytes) ≡ ends_cr l.bytes

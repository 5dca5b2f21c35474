use Rattle.std.proofs.Common.{◌≡◌, ◌+◌, ◌-◌, ◌*◌}
use Rattle.file_conversions.specs.NulWords.{nul_first_groups}
use Rattle.file_conversions.proofs.nul_words.convert_groups.Given as goal

abbrev pub invariant-loop-i : goal.invariant-loop-i
invariant-loop-i l = nul_first_groups l.bytes (l.place + 24 * l.i) (l.count - l.i) l.out ≡ nul_first_groups l.bytes l.place l.count l.fn.out

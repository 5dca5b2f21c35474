use Rattle.std.proofs.Common.{◌≡◌, ◌+◌, ◌*◌, drop}
use Rattle.file_conversions.specs.NomatchWords.{nomatch_groups}
use Rattle.file_conversions.proofs.nomatch_words.set_groups.Given as goal

abbrev pub invariant-loop-i : goal.invariant-loop-i
invariant-loop-i l = nomatch_groups l.bytes (l.place + 24 * l.i) (drop l.i l.groups) l.out ≡ nomatch_groups l.bytes l.place l.groups l.fn.out

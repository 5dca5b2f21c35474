use Rattle.std.proofs.Common.{◌≡◌, ◌+◌, ◌-◌, ◌*◌}
use Rattle.file_conversions.specs.NomatchWords.{groups_use_keys}
use Rattle.file_conversions.proofs.nomatch_words.groups_use_keys.Given as goal

abbrev pub invariant-loop-i : goal.invariant-loop-i
invariant-loop-i l = groups_use_keys l.bytes (l.place + 24 * l.i) (l.count - l.i) ≡ groups_use_keys l.bytes l.place l.count

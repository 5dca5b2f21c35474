use Rattle.std.proofs.Common.{◌≡◌, ◌+◌, ◌-◌, ◌*◌, ◌≤◌}
use Rattle.file_conversions.specs.NulWords.{nuls_first}
use Rattle.file_conversions.proofs.nul_words.move_nuls.Given as goal

abbrev pub invariant-loop-item : goal.invariant-loop-item
invariant-loop-item l =
    (nuls_first (l.count - l._item) l.place l.size l.out ≡ nuls_first l.count l.start 0 l.fn.out)
    × (l.place ≤ l.start + 4 * l._item)
    × (l.size ≤ 10 * l._item)

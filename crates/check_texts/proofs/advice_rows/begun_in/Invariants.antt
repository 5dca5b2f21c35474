use Rattle.std.proofs.Common.{◌≡◌, map, drop}
use Rattle.check_texts.specs.Advice.{begun_in}
use Rattle.check_texts.proofs.advice_rows.begun_in.Given as goal

abbrev pub invariant-loop-row : goal.invariant-loop-row
invariant-loop-row l =
    begun_in (map (λ row. (row.0.now, row.1.now)) (drop l.row-index l.table)) l.word ≡ begun_in (map (λ row. (row.0.now, row.1.now)) l.table) l.word

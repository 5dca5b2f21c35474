use Rattle.std.proofs.Common.{◌≡◌, drop, map}
use Rattle.decompile_text.specs.OneByOne.{with_flag_words}
use Rattle.decompile_text.proofs.items.put_flags.Given as goal

abbrev pub invariant-loop-row : goal.invariant-loop-row
invariant-loop-row l = with_flag_words l.flags l.page (map (λ row. (row.0.now, row.1)) (drop l.row-index l.table)) ≡ with_flag_words l.flags l.initial.page (map (λ row. (row.0.now, row.1)) l.table)

use Rattle.std.proofs.Common.{◌≡◌}
use Rattle.std.proofs.lemmas.Result.{IfOk-weaker}
use Rattle.decompile_program.specs.Back.{back}
use Rattle.kmx_decompiler.specs.Excess.{store_count, element_count}
use Rattle.kmx_decompiler.specs.declared.counts.WrittenCounts.{WrittenCounts}
use Rattle.kmx_decompiler.specs.Counting.{none_counted, with_lengths, text_lengths}
use Rattle.kmx_decompiler.proofs.TextCounts.{stores_counted, elements_counted}
use Rattle.kmx_decompiler.proofs.counts.count_all.Goals as goal

pub returns-clause-stores : goal.returns-clause-stores
returns-clause-stores c =
    IfOk-weaker c.count_lengths.result (λ (counts : WrittenCounts). counts ≡ with_lengths none_counted (text_lengths c.args.file.now)) (λ (counts : WrittenCounts). counts.stores ≡ store_count (back c.args.file.now))
    (λ (counts : WrittenCounts) is. stores_counted c.args.file.now counts c.requires.playable c.requires.written c.requires.keys is) c.count_lengths.ensures

pub returns-clause-elements : goal.returns-clause-elements
returns-clause-elements c =
    IfOk-weaker c.count_lengths.result (λ (counts : WrittenCounts). counts ≡ with_lengths none_counted (text_lengths c.args.file.now)) (λ (counts : WrittenCounts). counts.elements ≡ element_count (back c.args.file.now))
    (λ (counts : WrittenCounts) is. elements_counted c.args.file.now counts c.requires.playable c.requires.written c.requires.keys is) c.count_lengths.ensures

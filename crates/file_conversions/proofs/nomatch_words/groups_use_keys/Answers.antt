use Rattle.std.proofs.Common.{◌+◌, ◌*◌, Bool, ap}
use Rattle.std.specs.Prelude.{◌&&◌}
use Rattle.file_conversions.specs.NomatchWords.{groups_use_keys}
use Rattle.file_conversions.proofs.Steps.{one_more, some}
use Rattle.file_conversions.proofs.nomatch_words.groups_use_keys.Goals as goal

pub loop-i-preserved : goal.loop-i-preserved
loop-i-preserved c =
    let bytes = c.args.bytes.now in
    one_more 24 (groups_use_keys bytes) (groups_use_keys bytes) c.args.place c.args.count c.loop-i.i _ c.loop-i-test.true
    (λ rest. ap (λ (b : Bool). b && groups_use_keys bytes (c.args.place + 24 * c.loop-i.i + 24) rest) (some c.word_at.result _ c.word_at.ensures c.if-word_at-eq0.false))
    c.loop-i.invariant

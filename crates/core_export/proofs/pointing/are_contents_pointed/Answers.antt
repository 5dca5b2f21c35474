use Rattle.std.proofs.Common.{◌+◌, ◌*◌, Bool, ap}
use Rattle.std.specs.Prelude.{◌&&◌}
use Rattle.file_conversions.proofs.Steps.{one_more, some}
use Rattle.core_export.specs.Readable.{are_contents_pointed}
use Rattle.core_export.proofs.pointing.are_contents_pointed.Goals as goal

pub loop-i-preserved : goal.loop-i-preserved
loop-i-preserved c =
    let bytes = c.args.bytes.now in
    one_more 12 (are_contents_pointed bytes) (are_contents_pointed bytes) c.args.place c.args.count c.loop-i.i _ c.loop-i-test.true
    (λ rest. ap (λ (b : Bool). b && are_contents_pointed bytes (c.args.place + 12 * c.loop-i.i + 12) rest) (some c.word_at.result _ c.word_at.ensures c.if-word_at-eq0.false))
    c.loop-i.invariant

use Rattle.std.proofs.Common.{◌+◌, ◌*◌, Bool, ap, sym, ◌∙◌}
use Rattle.std.specs.Prelude.{◌&&◌}
use Rattle.file_conversions.proofs.Steps.{one_more}
use Rattle.core_export.specs.Readable.{are_records_pointed}
use Rattle.core_export.proofs.pointing.are_records_pointed.Goals as goal

pub loop-i-preserved : goal.loop-i-preserved
loop-i-preserved c =
    let bytes = c.args.bytes.now in
    one_more 20 (are_records_pointed bytes) (are_records_pointed bytes) c.args.place c.args.count c.loop-i.i _ c.loop-i-test.true
    (λ rest. ap (λ (b : Bool). b && are_records_pointed bytes (c.args.place + 20 * c.loop-i.i + 20) rest) (sym c.is_record_pointed.ensures ∙ c.if-not-is_record_pointed.false))
    c.loop-i.invariant

use Rattle.std.proofs.Common.{◌+◌, ◌*◌, Bool, ap, ap₂, sym, ◌∙◌}
use Rattle.std.specs.Prelude.{◌&&◌}
use Rattle.file_conversions.proofs.Steps.{one_more}
use Rattle.core_export.specs.Readable.{are_records_pointed, are_groups_pointed}
use Rattle.core_export.proofs.pointing.are_groups_pointed.Goals as goal

pub loop-i-preserved : goal.loop-i-preserved
loop-i-preserved c =
    let bytes = c.args.bytes.now in
    one_more 24 (are_groups_pointed bytes) (are_groups_pointed bytes) c.args.place c.args.count c.loop-i.i _ c.loop-i-test.true
    (λ rest. ap (λ (b : Bool). b && are_groups_pointed bytes (c.args.place + 24 * c.loop-i.i + 24) rest)
    (ap₂ (are_records_pointed bytes) (sym c.word_at-records.ensures) (sym c.word_at.ensures) ∙ sym c.are_records_pointed.ensures ∙ c.if-not-are_records_pointed.false))
    c.loop-i.invariant

use Rattle.std.proofs.Common.{ℕ, ◌+◌, ◌*◌, List, ap, ap₂, sym, ◌∙◌}
use Rattle.file_conversions.proofs.Steps.{one_more}
use Rattle.core_export.specs.Export.{pointed_records, pointed_groups}
use Rattle.core_export.proofs.pointing.point_groups.Goals as goal

pub loop-i-preserved : goal.loop-i-preserved
loop-i-preserved c =
    let left : List ℕ → ℕ → ℕ → List ℕ = λ out place count. pointed_groups c.args.bytes.now c.args.unit place count out in
    one_more 24 (left c.loop-i.out) (left c.point_records.new.out) c.args.place c.args.count c.loop-i.i _ c.loop-i-test.true
    (λ rest. ap (λ (out : List ℕ). left out (c.args.place + 24 * c.loop-i.i + 24) rest)
    (ap₂ (λ place count. pointed_records c.args.bytes.now c.args.unit place count c.loop-i.out) (sym c.word_at-records.ensures) (sym c.word_at.ensures)
    ∙ sym c.point_records.ensures))
    c.loop-i.invariant

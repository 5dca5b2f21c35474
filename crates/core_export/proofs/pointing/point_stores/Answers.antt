use Rattle.std.proofs.Common.{ℕ, ◌+◌, ◌*◌, List, ap, sym}
use Rattle.file_conversions.proofs.Steps.{one_more}
use Rattle.core_export.specs.Export.{pointed_stores}
use Rattle.core_export.proofs.pointing.point_stores.Goals as goal

pub loop-i-preserved : goal.loop-i-preserved
loop-i-preserved c =
    let left : List ℕ → ℕ → ℕ → List ℕ = λ out place count. pointed_stores c.args.bytes.now c.args.unit place count out in
    one_more 12 (left c.loop-i.out) (left c.point.new.out) c.args.place c.args.count c.loop-i.i _ c.loop-i-test.true
    (λ rest. ap (λ (out : List ℕ). left out (c.args.place + 12 * c.loop-i.i + 12) rest) (sym c.point.ensures))
    c.loop-i.invariant

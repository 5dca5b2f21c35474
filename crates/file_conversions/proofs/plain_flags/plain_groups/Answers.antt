use Rattle.std.proofs.Common.{ℕ, ◌+◌, ◌*◌, List, ap, sym}
use Rattle.file_conversions.specs.PlainFlags.{plain_groups}
use Rattle.file_conversions.proofs.Steps.{one_more}
use Rattle.file_conversions.proofs.plain_flags.plain_groups.Goals as goal

pub loop-i-preserved : goal.loop-i-preserved
loop-i-preserved c =
    let left : List ℕ → ℕ → ℕ → List ℕ = λ out place count. plain_groups c.args.bytes.now place count out in
    one_more 24 (left c.loop-i.out) (left c.plain_group.new.out) c.args.place c.args.count c.loop-i.i _ c.loop-i-test.true
    (λ rest. ap (λ (out : List ℕ). left out (c.args.place + 24 * c.loop-i.i + 24) rest) (sym c.plain_group.ensures))
    c.loop-i.invariant

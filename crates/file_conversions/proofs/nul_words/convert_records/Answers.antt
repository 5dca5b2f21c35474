use Rattle.std.proofs.Common.{ℕ, ◌+◌, ◌*◌, List, ap, sym}
use Rattle.file_conversions.specs.NulWords.{nul_first_records}
use Rattle.file_conversions.proofs.Steps.{one_more}
use Rattle.file_conversions.proofs.nul_words.convert_records.Goals as goal

pub loop-i-preserved : goal.loop-i-preserved
loop-i-preserved c =
    let left : List ℕ → ℕ → ℕ → List ℕ = λ out place count. nul_first_records c.args.bytes.now place count out in
    one_more 20 (left c.loop-i.out) (left c.convert_record.new.out) c.args.place c.args.count c.loop-i.i _ c.loop-i-test.true
    (λ rest. ap (λ (out : List ℕ). left out (c.args.place + 20 * c.loop-i.i + 20) rest) (sym c.convert_record.ensures))
    c.loop-i.invariant

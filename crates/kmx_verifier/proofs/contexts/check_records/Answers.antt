use Rattle.std.proofs.Common.{refl}
use Rattle.std.proofs.lemmas.Result.{err_from_is_err_and}
use Rattle.kmx_verifier.specs.FaultOf.{record_fault, records_fault}
use Rattle.kmx_verifier.proofs.Totals.{total_more, refusal_stops}
use Rattle.kmx_verifier.proofs.contexts.check_records.Goals as goal

pub loop-i-preserved : goal.loop-i-preserved
loop-i-preserved c =
    total_more (λ _ place. record_fault c.args.bytes.now c.args.using_keys place) (λ _. 0) 20 (λ _ place count. records_fault c.args.bytes.now c.args.using_keys place count) (λ _ _ _. refl) 0 c.args.place c.args.count c.loop-i.i _ c.loop-i-test.true c.in_ok-check_record.ensures.0 c.loop-i.invariant

pub returns-in_err-check_record : goal.returns-in_err-check_record
returns-in_err-check_record c =
    let p = err_from_is_err_and c.from_residual.result c.from_residual.ensures.1 in rw (p.1, p.2)
    (refusal_stops (λ _ place. record_fault c.args.bytes.now c.args.using_keys place) (λ _. 0) 20 (λ _ place count. records_fault c.args.bytes.now c.args.using_keys place count) (λ _ _ _. refl) 0 c.args.place c.args.count c.loop-i.i _ _ c.loop-i-test.true c.in_err-check_record.ensures c.loop-i.invariant)

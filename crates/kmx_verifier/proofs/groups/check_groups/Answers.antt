use Rattle.std.proofs.Common.{refl, ◌+◌}
use Rattle.std.proofs.lemmas.Result.{err_from_is_err_and}
use Rattle.kmx_format.specs.TablesOf.{word_at}
use Rattle.kmx_verifier.specs.FaultOf.{group_fault, groups_fault}
use Rattle.kmx_verifier.proofs.Totals.{total_more, refusal_stops}
use Rattle.kmx_verifier.proofs.groups.check_groups.Goals as goal

pub loop-i-preserved : goal.loop-i-preserved
loop-i-preserved c = (
  rw (c.in_ok-records.ensures.1) (total_more (group_fault c.args.bytes.now) (λ place. word_at c.args.bytes.now (place + 16)) 24 (groups_fault c.args.bytes.now) (λ _ _ _. refl) c.loop-i.records c.args.place c.args.count c.loop-i.i _ c.loop-i-test.true c.in_ok-records.ensures.0 c.loop-i.invariant.0),
  c.in_ok-records.ensures.2,
)

pub returns-in_err-records : goal.returns-in_err-records
returns-in_err-records c =
    let p = err_from_is_err_and c.from_residual.result c.from_residual.ensures.1 in rw (p.1, p.2)
    (refusal_stops (group_fault c.args.bytes.now) (λ place. word_at c.args.bytes.now (place + 16)) 24 (groups_fault c.args.bytes.now) (λ _ _ _. refl) c.loop-i.records c.args.place c.args.count c.loop-i.i _ _ c.loop-i-test.true c.in_err-records.ensures c.loop-i.invariant.0)

use Rattle.std.proofs.Common.{refl}
use Rattle.std.proofs.lemmas.Result.{err_from_is_err_and}
use Rattle.kmx_verifier.specs.FaultOf.{store_fault, stores_fault, elements_in}
use Rattle.kmx_verifier.proofs.Totals.{total_more, total_stops}
use Rattle.kmx_verifier.proofs.stores.check_stores.Goals as goal

pub loop-i-preserved : goal.loop-i-preserved
loop-i-preserved c = (
  rw (c.in_ok-elements.ensures.1) (total_more (store_fault c.args.bytes.now) (elements_in c.args.bytes.now) 12 (stores_fault c.args.bytes.now) (λ _ _ _. refl) c.loop-i.elements c.args.place c.args.count c.loop-i.i _ c.loop-i-test.true c.in_ok-elements.ensures.0 c.loop-i.invariant.0),
  c.in_ok-elements.ensures.2,
)

pub returns-in_err-elements : goal.returns-in_err-elements
returns-in_err-elements c =
    let p = err_from_is_err_and c.from_residual.result c.from_residual.ensures.1 in rw (p.1, p.2)
    (total_stops (store_fault c.args.bytes.now) (elements_in c.args.bytes.now) 12 (stores_fault c.args.bytes.now) (λ _ _ _. refl) c.loop-i.elements c.args.place c.args.count c.loop-i.i _ _ c.loop-i-test.true c.in_err-elements.ensures c.loop-i.invariant.0)

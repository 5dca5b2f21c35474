use Rattle.std.proofs.Common.{arith, ◌∙◌}
use Rattle.name_warnings.proofs.OwnValues.{own_step}
use Rattle.name_warnings.proofs.values.add_own_values.Goals as goal

pub loop-store-preserved : goal.loop-store-preserved
loop-store-preserved c =
    own_step c.args.contents.now c.args.options.now c.loop-store.given c.add_own_value.new.given c.args.stores.now c.loop-store.store-index c.store-item.result
    (omega (arith, c.loop-store-test.true)) c.store-item.is c.in_ok-add_own_value.ensures
    ∙ c.loop-store.invariant

use Rattle.rule_expand.proofs.StoreLists.{value_step}
use Rattle.rule_expand.proofs.stores.add_values.Goals as goal

pub loop-place-preserved : goal.loop-place-preserved
loop-place-preserved c =
    value_step c.args.stores.now.items c.loop-place.stores.items c.push.new.self.items c.args.values.now c.loop-place.place c.in-Some.value.now c.in_ok-characters_store.field-0
    c.in-Some.ensures c.in_ok-characters_store.ensures c.loop-place.invariant c.in_ok-push.ensures.items

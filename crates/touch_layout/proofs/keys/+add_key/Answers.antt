use Rattle.std.proofs.Common.{codes, sym, arith}
use Rattle.serde_json.specs.View.{view}
use Rattle.touch_layout.proofs.Members.{get_depth, listed_depth}
use Rattle.touch_layout.proofs.keys.+add_key.Goals as goal

pub add_direction-add_key-requires : goal.add_direction-add_key-requires
add_direction-add_key-requires t c =
    let deep = get_depth c.args.name.now (view c.args.flick.now) (view c.in-Some.key.now) (sym c.in-Some.ensures) in (omega arith, tt)

pub add_flick-add_directions-requires : goal.add_flick-add_directions-requires
add_flick-add_directions-requires t c =
    let deep = get_depth (codes "flick") (view c.args.value.now) (view c.in-Some.flick.now) (sym c.in-Some.ensures) in (omega arith, tt)

pub add_list-add_items-requires : goal.add_list-add_items-requires
add_list-add_items-requires t c =
    let deep = get_depth c.args.name.now (view c.args.value.now) (view c.in-Some.list.now) (sym c.in-Some.ensures) in (omega arith, tt)

pub add_items-add_key-requires : goal.add_items-add_key-requires
add_items-add_key-requires t c =
    let deep = listed_depth (view c.args.list.now) c.in-Some.items.now.items c.deref-item-items.result.now c.loop-item.item-index c.item-item.result c.in-Some.ensures c.deref-item-items.ensures.value c.loop-item-test.true c.item-item.is in (omega arith, tt)

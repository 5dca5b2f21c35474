use Rattle.std.proofs.Common.{◌≡◌, ◌+◌, ◌*◌, drop, map}
use Rattle.serde_json.specs.View.{view, items_view}
use Rattle.serde_json.specs.Data.{depth}
use Rattle.touch_layout.specs.Keys.{keys_view, items_onto, names_onto}
use Rattle.touch_layout.proofs.keys.+add_key.Given as goal

abbrev pub decreases-add_key : goal.decreases-add_key
decreases-add_key l = 3 * depth (view l.value.now) + 2

abbrev pub decreases-add_list : goal.decreases-add_list
decreases-add_list l = 3 * depth (view l.value.now) + 1

abbrev pub decreases-add_items : goal.decreases-add_items
decreases-add_items l = 3 * depth (view l.list.now) + 2

abbrev pub decreases-add_flick : goal.decreases-add_flick
decreases-add_flick l = 3 * depth (view l.value.now) + 1

abbrev pub decreases-add_directions : goal.decreases-add_directions
decreases-add_directions l = 3 * depth (view l.flick.now) + 3

abbrev pub decreases-add_members : goal.decreases-add_members
decreases-add_members l = 3 * depth (view l.flick.now) + 2

abbrev pub decreases-add_direction : goal.decreases-add_direction
decreases-add_direction l = 3 * depth (view l.flick.now) + 1

abbrev pub invariant-add_items-loop-item : goal.invariant-add_items-loop-item
invariant-add_items-loop-item l =
    items_onto l.place (keys_view l.found.items) (items_view (drop l.item-index l.item-items))
    ≡ items_onto l.place (keys_view l.initial.found.items) (items_view l.item-items)

abbrev pub invariant-add_members-loop-name : goal.invariant-add_members-loop-name
invariant-add_members-loop-name l =
    names_onto l.place (view l.flick) (map (λ name. name.now) (drop l.name-index l.names)) (keys_view l.found.items)
    ≡ names_onto l.place (view l.flick) (map (λ name. name.now) l.names) (keys_view l.initial.found.items)

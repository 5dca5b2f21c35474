use Rattle.std.proofs.Common.{◌≡◌, drop, map}
use Rattle.store_table.specs.Names.{is_named}
use Rattle.touch_layout.specs.Keys.{keys_view}
use Rattle.touch_layout.specs.LayerIds.{layer_of}
use Rattle.touch_layout.specs.Layout.{keys_fault}
use Rattle.touch_layout.proofs.check.keys_fault.Given as goal

abbrev pub invariant-loop-key : goal.invariant-loop-key
invariant-loop-key l =
    keys_fault (is_named l.names) (map (λ id. layer_of id.0 id.1.now) l.ids.keys) (keys_view (drop l.key-index l.keys))
    ≡ keys_fault (is_named l.names) (map (λ id. layer_of id.0 id.1.now) l.ids.keys) (keys_view l.keys)

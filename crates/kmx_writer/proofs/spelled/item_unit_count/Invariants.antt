use Rattle.std.proofs.Common.{◌≡◌, ◌+◌, length, map, drop}
use Rattle.kmx_format.specs.FileUnits.{item_units}
use Rattle.kmx_writer.proofs.spelled.item_unit_count.Given as goal

abbrev pub invariant-loop-item : goal.invariant-loop-item
invariant-loop-item g l = l.count + length (item_units (map g.T.Spelled.spelled (drop l.item-index l.items))) ≡ length (item_units (map g.T.Spelled.spelled l.items))

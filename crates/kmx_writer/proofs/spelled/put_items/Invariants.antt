use Rattle.std.proofs.Common.{◌≡◌, ◌++◌, map, drop}
use Rattle.kmn_base.specs.Spelling.{unit_bytes}
use Rattle.kmx_format.specs.FileUnits.{item_units}
use Rattle.kmx_writer.proofs.spelled.put_items.Given as goal

abbrev pub invariant-loop-item : goal.invariant-loop-item
invariant-loop-item g l = l.out ++ unit_bytes (item_units (map g.T.Spelled.spelled (drop l.item-index l.items))) ≡ l.fn.out ++ unit_bytes (item_units (map g.T.Spelled.spelled l.items))

use Rattle.std.proofs.Common.{◌≡◌, length}
use Rattle.std.specs.List.{filter_map}
use Rattle.item_codec.specs.Walk.{items_given}
use Rattle.kmx_parts.proofs.walks.StringPartsIterator.next.Given as goal

-- only items that are not allowed there were skipped
abbrev pub invariant-loop-read : goal.invariant-loop-read
invariant-loop-read g l = filter_map g.T.StringPart.of_unit_item (items_given l.self-inside.items) ≡ l.fn.self

abbrev pub decreases-loop-read : goal.decreases-loop-read
decreases-loop-read g l = length l.self-inside.items

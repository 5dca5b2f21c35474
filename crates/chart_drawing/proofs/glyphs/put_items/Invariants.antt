use Rattle.std.proofs.Common.{◌≡◌, ◌++◌, drop, flat_map}
use Rattle.std.specs.String.{string_bytes}
use Rattle.chart_drawing.specs.Glyphs.{item_words}
use Rattle.chart_drawing.proofs.glyphs.put_items.Given as goal

abbrev pub invariant-loop-item : goal.invariant-loop-item
invariant-loop-item l = string_bytes l.text ++ flat_map item_words (drop l.item-index l.items) ≡ string_bytes l.fn.text ++ flat_map item_words l.items

use Rattle.std.proofs.Common.{◌≡◌, drop}
use Rattle.std.specs.Prelude.{filter_map}
use Rattle.std.specs.List.{list_all}
use Rattle.rule_model.specs.Match.{item_of}
use Rattle.rule_shadow.specs.Covers.{covers_item}
use Rattle.rule_shadow.proofs.covering.covers_items.Given as goal

abbrev pub invariant-loop-element : goal.invariant-loop-element
invariant-loop-element l = list_all (covers_item l.tables l.pattern) (filter_map item_of (drop l.element-index l.elements)) ≡ list_all (covers_item l.tables l.pattern) (filter_map item_of l.elements)

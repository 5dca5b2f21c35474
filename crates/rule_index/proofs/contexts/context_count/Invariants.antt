use Rattle.std.proofs.Common.{◌≡◌, ◌+◌, ◌≤◌, min, [], map, drop}
use Rattle.rule_model.specs.Hold.{pattern_count}
use Rattle.rule_model.specs.Tab.{tab_pattern}
use Rattle.kmx_parts.specs.ContextItems.{pattern_of}
use Rattle.rule_index.specs.Groups.{context_count}
use Rattle.rule_index.proofs.contexts.context_count.Given as goal

abbrev pub invariant-loop-item : goal.invariant-loop-item
invariant-loop-item l = record {
  few : l.count ≤ 255;
  same : min (l.count + pattern_count (map (tab_pattern []) (map pattern_of (drop l.item-index l.context)))) 255 ≡ context_count (map pattern_of l.context);
}

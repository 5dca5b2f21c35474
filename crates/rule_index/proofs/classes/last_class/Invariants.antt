use Rattle.std.proofs.Common.{◌≡◌, ◌<◌, [], map}
use Rattle.rule_model.specs.Tab.{tab_pattern}
use Rattle.kmx_parts.specs.ContextItems.{pattern_of}
use Rattle.rule_index.specs.Classes.{last_class}
use Rattle.rule_index.proofs.classes.last_class.Given as goal

abbrev pub invariant-loop-item : goal.invariant-loop-item
invariant-loop-item l = record {
  value : last_class l.class (map (tab_pattern []) (map pattern_of l.item-iterator)) ≡ last_class 0 (map (tab_pattern []) (map pattern_of l.fn.context));
  small : l.class < 2097152;
}

use Rattle.std.proofs.Common.{◌≡◌, ◌≤◌, take}
use Rattle.std.specs.List.{count_by}
use Rattle.source_warnings.specs.Keys.{is_element_missed}
use Rattle.source_warnings.proofs.keys.missed_count.Given as goal

abbrev pub invariant-loop-element : goal.invariant-loop-element
invariant-loop-element l = record {
  count : l.count ≡ count_by (is_element_missed l.characters.keys) (take l.element-index l.elements);
  within : l.count ≤ l.element-index;
}

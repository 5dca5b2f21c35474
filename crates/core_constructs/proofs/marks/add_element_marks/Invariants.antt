use Rattle.std.proofs.Common.{◌≡◌, drop, flat_map}
use Rattle.std.specs.List.{fold}
use Rattle.std.specs.Ordering.{nat_cmp}
use Rattle.std.specs.BTreeSet.{insert_key}
use Rattle.core_constructs.specs.Marks.{element_marks}
use Rattle.core_constructs.proofs.marks.add_element_marks.Given as goal

abbrev pub invariant-loop-element : goal.invariant-loop-element
invariant-loop-element l = fold (insert_key nat_cmp) l.marks (flat_map element_marks (drop l.element-index l.elements)) ≡ fold (insert_key nat_cmp) l.fn.marks (flat_map element_marks l.elements)

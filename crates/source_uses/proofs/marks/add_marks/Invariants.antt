use Rattle.std.proofs.Common.{◌≡◌, ◌++◌, flat_map, take}
use Rattle.source_uses.specs.Marks.{element_marks}
use Rattle.source_uses.proofs.marks.add_marks.Given as goal

abbrev pub invariant-loop-element : goal.invariant-loop-element
invariant-loop-element l = l.uses.items ≡ l.fn.uses.items ++ flat_map (element_marks l.line) (take l.element-index l.elements)

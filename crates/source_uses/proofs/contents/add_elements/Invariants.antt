use Rattle.std.proofs.Common.{◌≡◌, ◌++◌, take}
use Rattle.source_uses.proofs.contents.add_elements.Given as goal

abbrev pub invariant-loop-element : goal.invariant-loop-element
invariant-loop-element l = l.elements ≡ l.fn.elements ++ take l.element-index l.others

use Rattle.std.proofs.Common.{◌≡◌, drop}
use Rattle.decompile_text.specs.OneByOne.{with_elements}
use Rattle.decompile_text.proofs.lines.put_elements.Given as goal

abbrev pub invariant-loop-element : goal.invariant-loop-element
invariant-loop-element l = with_elements l.names l.page (drop l.element-index l.elements) ≡ with_elements l.names l.initial.page l.elements

use Rattle.std.proofs.Common.{◌≡◌, take}
use Rattle.name_warnings.specs.Values.{characters}
use Rattle.name_warnings.proofs.values.characters.Given as goal

abbrev pub invariant-loop-element : goal.invariant-loop-element
invariant-loop-element l = l.value ≡ characters (take l.element-index l.elements)

use Rattle.std.proofs.Common.{◌≡◌, ◌++◌, take}
use Rattle.source_warnings.specs.SameKeys.{elements_characters}
use Rattle.source_warnings.proofs.same_keys.add_elements_characters.Given as goal

abbrev pub invariant-loop-element : goal.invariant-loop-element
invariant-loop-element l = l.characters ≡ l.fn.characters ++ elements_characters (take l.element-index l.elements)

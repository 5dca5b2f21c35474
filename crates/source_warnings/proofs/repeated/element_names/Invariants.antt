use Rattle.std.proofs.Common.{◌≡◌, map, take}
use Rattle.source_warnings.specs.Repeated.{element_name}
use Rattle.source_warnings.proofs.repeated.element_names.Given as goal

abbrev pub invariant-loop-element : goal.invariant-loop-element
invariant-loop-element l = l.names ≡ map element_name (take l.element-index l.elements)

use Rattle.std.proofs.Common.{◌≡◌, ◌++◌, drop}
use Rattle.std.specs.Prelude.{filter_map}
use Rattle.rule_model.specs.Tab.{element_char}
use Rattle.kmx_decompiler.proofs.values.characters_of.Given as goal

abbrev pub invariant-loop-element : goal.invariant-loop-element
invariant-loop-element l = l.characters.items ++ filter_map element_char (drop l.element-index l.elements) ≡ filter_map element_char l.elements

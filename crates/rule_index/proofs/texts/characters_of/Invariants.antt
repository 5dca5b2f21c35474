use Rattle.std.proofs.Common.{◌≡◌, map, take}
use Rattle.kmn_base.specs.declared.items.Element.TheVariants.{Char}
use Rattle.rule_index.proofs.texts.characters_of.Given as goal

abbrev pub invariant-loop-element : goal.invariant-loop-element
invariant-loop-element l = map Char l.characters.items ≡ take l.element-index l.elements

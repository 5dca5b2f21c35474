use Rattle.std.proofs.Common.{◌≡◌, ◌++◌, map, take}
use Rattle.std.specs.Prelude.{flat_map}
use Rattle.compile_laws.specs.Compiles.{element_outs}
use Rattle.rule_expand.specs.declared.pieces.Piece.TheVariants.{Fixed}
use Rattle.rule_expand.proofs.pieces.add_elements.Given as goal

abbrev pub invariant-loop-element : goal.invariant-loop-element
invariant-loop-element l = l.pieces.items ≡ l.initial.pieces.items ++ map Fixed (flat_map element_outs (take l.element-index l.elements))

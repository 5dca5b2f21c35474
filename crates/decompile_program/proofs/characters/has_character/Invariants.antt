use Rattle.std.proofs.Common.{◌≡◌, drop}
use Rattle.std.specs.Prelude.{◌==◌, filter_map}
use Rattle.std.specs.List.{list_any}
use Rattle.rule_model.specs.Tab.{element_char}
use Rattle.decompile_program.proofs.characters.has_character.Given as goal

abbrev pub invariant-loop-element : goal.invariant-loop-element
invariant-loop-element l = list_any (λ c. c == l.wanted) (filter_map element_char (drop l.element-index l.elements)) ≡ list_any (λ c. c == l.wanted) (filter_map element_char l.elements)

use Rattle.std.proofs.Common.{◌≡◌, drop}
use Rattle.std.specs.Prelude.{filter_map}
use Rattle.std.specs.List.{list_all}
use Rattle.rule_model.specs.Tab.{element_char}
use Rattle.kmn_parser.specs.Names.{is_inner}
use Rattle.kmx_decompiler.proofs.items.are_inner.Given as goal

abbrev pub invariant-loop-element : goal.invariant-loop-element
invariant-loop-element l =
    list_all is_inner (filter_map element_char (drop l.element-index l.elements)) ≡ list_all is_inner (filter_map element_char l.elements)

use Rattle.std.proofs.Common.{◌≡◌, take}
use Rattle.rule_model.specs.Src.{value_elements}
use Rattle.rule_expand.proofs.stores.characters_store.Given as goal

abbrev pub invariant-loop-c : goal.invariant-loop-c
invariant-loop-c l = l.elements.items ≡ value_elements (take l.c-index l.characters)

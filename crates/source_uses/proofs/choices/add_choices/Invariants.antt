use Rattle.std.proofs.Common.{◌≡◌, ◌++◌, take}
use Rattle.source_uses.specs.Choices.{items_choices}
use Rattle.source_uses.proofs.choices.add_choices.Given as goal

abbrev pub invariant-loop-item : goal.invariant-loop-item
invariant-loop-item l = l.choices.items ≡ l.fn.choices.items ++ items_choices l.line (take l.item-index l.items)

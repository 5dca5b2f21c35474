use Rattle.std.proofs.Common.{take}
use Rattle.indexed_tables.specs.Numbers.{HasItems}
use Rattle.indexed_tables.proofs.store_sets.set_of.Given as goal

abbrev pub invariant-loop-element : goal.invariant-loop-element
invariant-loop-element l = HasItems l.set.keys (take l.element-index l.elements)

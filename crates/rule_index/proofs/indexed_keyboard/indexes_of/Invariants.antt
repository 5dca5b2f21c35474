use Rattle.rule_index.proofs.GroupIndexes.{AreIndexed}
use Rattle.rule_index.proofs.indexed_keyboard.indexes_of.Given as goal

abbrev pub invariant-loop-group : goal.invariant-loop-group
invariant-loop-group l = AreIndexed l.file.groups l.indexes.items l.group-iterator

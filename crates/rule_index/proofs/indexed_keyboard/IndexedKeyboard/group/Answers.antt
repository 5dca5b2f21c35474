use Rattle.std.proofs.Common.{sym}
use Rattle.rule_index.proofs.GroupIndexes.{index_found}
use Rattle.rule_index.proofs.indexed_keyboard.IndexedKeyboard.group.Goals as goal

pub returns-in-Some-clause-index : goal.returns-in-Some-clause-index
returns-in-Some-clause-index c =
    index_found c.self.inside.file.groups c.self.inside.indexes.items c.args.number c.in-Some.group c.index.result.now
    c.self.invariant.1 (sym c.in-Some.ensures) c.index.ensures

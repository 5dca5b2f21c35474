use Rattle.std.proofs.Common.{arith}
use Rattle.rule_expand.proofs.ExpandedTables.{tables_are}
use Rattle.rule_expand.proofs.expanding.expanded.Goals as goal

pub returns : goal.returns
returns c = grind (arith, tables_are)

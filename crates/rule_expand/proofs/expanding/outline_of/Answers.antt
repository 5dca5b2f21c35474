use Rattle.std.proofs.Common.{sym, subst}
use Rattle.rule_expand.specs.Expanded.{HasTables}
use Rattle.rule_expand.proofs.AcceptedTables.{has_tables}
use Rattle.rule_expand.proofs.expanding.outline_of.Goals as goal

pub outline_named-requires-clause-tables : goal.outline_named-requires-clause-tables
outline_named-requires-clause-tables c =
    subst HasTables (sym c.program.ensures.value) (has_tables c.args.checked.now c.program.ensures.read c.program.ensures.unrefused)

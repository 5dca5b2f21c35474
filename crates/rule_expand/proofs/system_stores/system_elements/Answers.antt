use Rattle.std.proofs.Common.{sym, subst}
use Rattle.rule_expand.specs.Expanded.{HasTables}
use Rattle.rule_expand.proofs.AcceptedTables.{has_tables}
use Rattle.rule_expand.proofs.system_stores.system_elements.Goals as goal

pub first_elements-requires-clause-tables : goal.first_elements-requires-clause-tables
first_elements-requires-clause-tables c =
    subst HasTables (sym c.program.ensures.value) (has_tables c.args.checked.now c.program.ensures.read c.program.ensures.unrefused)

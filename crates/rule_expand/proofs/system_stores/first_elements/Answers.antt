use Rattle.rule_expand.proofs.ExpandedTables.{few_lists}
use Rattle.rule_expand.proofs.SystemStores.{first_begin}
use Rattle.rule_expand.proofs.system_stores.first_elements.Goals as goal

pub statement_elements-requires-clause-few : goal.statement_elements-requires-clause-few
statement_elements-requires-clause-few c = few_lists c.args.program.now c.requires.tables c.args.names.now c.requires.names

pub statement_elements-requires-clause-first : goal.statement_elements-requires-clause-first
statement_elements-requires-clause-first c =
    rw c.as_slice-stores.ensures (first_begin c.args.system c.args.program.now c.requires.tables c.args.names.now c.requires.names c.in-Some.place)

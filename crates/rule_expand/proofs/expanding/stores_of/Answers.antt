use Rattle.rule_expand.proofs.ExpandedTables.{few_lists, statements_begin}
use Rattle.rule_expand.proofs.expanding.stores_of.Goals as goal

pub statement_stores-requires-clause-few : goal.statement_stores-requires-clause-few
statement_stores-requires-clause-few c = few_lists c.args.program.now c.requires.tables c.args.names.now c.requires.names

pub statement_stores-requires-clause-first : goal.statement_stores-requires-clause-first
statement_stores-requires-clause-first c = rw c.as_slice.ensures (statements_begin c.args.program.now c.requires.tables c.args.names.now c.requires.names)

use Rattle.std.proofs.Common.{arith}
use Rattle.std.proofs.lemmas.Grind.{common_steps}
use Rattle.indexed_tables.proofs.indexed_tables.IndexedTables.own_key.Goals as goal

pub returns-then-code-lt-FIRST_OWN_CODE : goal.returns-then-code-lt-FIRST_OWN_CODE
returns-then-code-lt-FIRST_OWN_CODE c = grind (arith, common_steps)

use Rattle.kmn_compiler.proofs.Expanded.{ordered_compiles}
use Rattle.kmn_compiler.proofs.compiling.tables_of.Goals as goal

pub returns-clause-compiles : goal.returns-clause-compiles
returns-clause-compiles c = ordered_compiles c.args.checked.now c.in_ok-tables.tables c.order.new.tables c.in_ok-tables.ensures c.order.ensures

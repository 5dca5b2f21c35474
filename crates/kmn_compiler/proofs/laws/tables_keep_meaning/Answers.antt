use Rattle.kmn_compiler.proofs.Checks.{checked_prints, checked_steps}
use Rattle.kmn_compiler.proofs.laws.tables_keep_meaning.Goals as goal

pub returns-clause-steps : goal.returns-clause-steps
returns-clause-steps c = checked_steps

pub returns-clause-prints : goal.returns-clause-prints
returns-clause-prints c = checked_prints

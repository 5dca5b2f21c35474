use Rattle.std.proofs.Common.{arith}
use Rattle.kmx_decompiler.proofs.Refusing.{unspelled_order}
use Rattle.kmx_decompiler.proofs.decompiling.decompile.Goals as goal

pub returns-in-Some-clause-text : goal.returns-in-Some-clause-text
returns-in-Some-clause-text c = grind (arith, unspelled_order)

pub returns-in-Some-clause-spelled : goal.returns-in-Some-clause-spelled
returns-in-Some-clause-spelled c = grind (arith, unspelled_order)

pub returns-in-Some-clause-refused : goal.returns-in-Some-clause-refused
returns-in-Some-clause-refused c = grind (arith, unspelled_order)

pub returns-clause-text : goal.returns-clause-text
returns-clause-text c = grind (arith, unspelled_order)

pub returns-clause-spelled : goal.returns-clause-spelled
returns-clause-spelled c = grind (arith, unspelled_order)

pub returns-clause-refused : goal.returns-clause-refused
returns-clause-refused c = grind (arith, unspelled_order)

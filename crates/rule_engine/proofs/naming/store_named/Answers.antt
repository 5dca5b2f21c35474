use Rattle.std.proofs.Common.{arith}
use Rattle.rule_engine.proofs.OptionNames.{named_here, named_is_some, passed_here, none_named, named_of_all}
use Rattle.rule_engine.proofs.naming.store_named.Goals as goal

pub returns-then-branch-clause-found : goal.returns-then-branch-clause-found
returns-then-branch-clause-found c = grind (arith, named_here, named_is_some, passed_here, none_named, named_of_all)

pub returns-then-branch-clause-option : goal.returns-then-branch-clause-option
returns-then-branch-clause-option c = grind (arith, named_here, named_is_some, passed_here, none_named, named_of_all)

pub returns-then-branch-clause-within : goal.returns-then-branch-clause-within
returns-then-branch-clause-within c = grind (arith, named_here, named_is_some, passed_here, none_named, named_of_all)

pub loop-store-preserved : goal.loop-store-preserved
loop-store-preserved c = grind (arith, named_here, named_is_some, passed_here, none_named, named_of_all)

pub returns-clause-found : goal.returns-clause-found
returns-clause-found c = grind (arith, named_here, named_is_some, passed_here, none_named, named_of_all)

pub returns-clause-option : goal.returns-clause-option
returns-clause-option c = grind (arith, named_here, named_is_some, passed_here, none_named, named_of_all)

pub returns-clause-within : goal.returns-clause-within
returns-clause-within c = grind (arith, named_here, named_is_some, passed_here, none_named, named_of_all)

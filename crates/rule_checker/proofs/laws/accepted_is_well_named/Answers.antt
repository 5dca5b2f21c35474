use Rattle.rule_checker.proofs.Named.{well_named}
use Rattle.rule_checker.proofs.laws.accepted_is_well_named.Goals as goal

pub returns : goal.returns
returns c = well_named

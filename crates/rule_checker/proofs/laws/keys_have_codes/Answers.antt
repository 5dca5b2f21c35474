use Rattle.rule_checker.proofs.Within.{keys_are_coded}
use Rattle.rule_checker.proofs.laws.keys_have_codes.Goals as goal

pub returns : goal.returns
returns c = keys_are_coded

use Rattle.rule_shadow.proofs.FoundHold.{found_hold_before}
use Rattle.rule_shadow.proofs.law.found_records_hold_before.Goals as goal

pub returns : goal.returns
returns c = found_hold_before

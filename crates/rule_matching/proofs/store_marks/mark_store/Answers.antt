use Rattle.std.proofs.Common.{rules}
use Rattle.rule_matching.proofs.store_marks.mark_store.Goals as goal

pub returns-else-store-marks-clause-set : goal.returns-else-store-marks-clause-set
returns-else-store-marks-clause-set c = search rules

pub returns-else-store-marks-clause-others : goal.returns-else-store-marks-clause-others
returns-else-store-marks-clause-others c = search rules

pub returns-else-store-marks-clause-until : goal.returns-else-store-marks-clause-until
returns-else-store-marks-clause-until c = search rules

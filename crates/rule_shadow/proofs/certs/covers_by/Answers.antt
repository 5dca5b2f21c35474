use Rattle.std.proofs.Common.{rules}
use Rattle.rule_shadow.proofs.certs.covers_by.Goals as goal

pub returns-then-by-subject : goal.returns-then-by-subject
returns-then-by-subject c = search rules

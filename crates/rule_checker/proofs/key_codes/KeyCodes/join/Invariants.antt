use Rattle.std.proofs.Common.{◌≡◌}
use Rattle.rule_checker.proofs.JoinedCodes.{joined_from}
use Rattle.rule_checker.proofs.key_codes.KeyCodes.join.Given as goal

abbrev pub invariant-loop-code : goal.invariant-loop-code
invariant-loop-code l = joined_from l.code l.mark-items l.others.marks ≡ joined_from 0 l.initial.mark-items l.others.marks

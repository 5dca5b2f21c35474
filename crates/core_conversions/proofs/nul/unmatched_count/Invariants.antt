use Rattle.std.proofs.Common.{◌≡◌, ◌+◌, drop}
use Rattle.std.specs.List.{position_or_len}
use Rattle.rule_model.specs.Patterns.{is_matched}
use Rattle.core_conversions.proofs.nul.unmatched_count.Given as goal

abbrev pub invariant-loop-i : goal.invariant-loop-i
invariant-loop-i l = l.i + position_or_len is_matched (drop l.i l.context) ≡ position_or_len is_matched l.context

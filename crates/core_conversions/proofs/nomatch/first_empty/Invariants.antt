use Rattle.std.proofs.Common.{◌≡◌, ◌+◌, drop}
use Rattle.std.specs.List.{position_or_len}
use Rattle.core_conversions.specs.Conversions.{has_empty_context}
use Rattle.core_conversions.proofs.nomatch.first_empty.Given as goal

abbrev pub invariant-loop-i : goal.invariant-loop-i
invariant-loop-i l = l.i + position_or_len has_empty_context (drop l.i l.rules) ≡ position_or_len has_empty_context l.rules

use Rattle.std.proofs.Common.{◌≡◌, drop}
use Rattle.std.specs.List.{fold}
use Rattle.kmn_base.specs.Digits.{with_digit, bounded_value}
use Rattle.kmn_base.proofs.digits.bounded_value.Given as goal

abbrev pub invariant-loop-digit : goal.invariant-loop-digit
invariant-loop-digit l = fold (with_digit l.bound l.base) l.value (drop l.digit-index l.digits) ≡ bounded_value l.bound l.base l.digits

use Rattle.std.proofs.Common.{arith}
use Rattle.virtual_keys.proofs.HexLemmas.{few_digits}
use Rattle.virtual_keys.proofs.unicode_names.hex_value.Goals as goal

pub overflow_mul-value : goal.overflow_mul-value
overflow_mul-value c = let few = few_digits c.loop-digit.value c.loop-digit.digit-index c.loop-digit.invariant.bound (omega arith) in omega arith

pub overflow_add-value : goal.overflow_add-value
overflow_add-value c = let few = few_digits c.loop-digit.value c.loop-digit.digit-index c.loop-digit.invariant.bound (omega arith) in omega (arith, c.in_ok-value.ensures.below)

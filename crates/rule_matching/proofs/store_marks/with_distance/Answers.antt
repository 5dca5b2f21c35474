use Rattle.std.proofs.Common.{nat_eq, w64, ap}
use Rattle.std.proofs.lemmas.Nat.Bits.{bit_at_set_same, bit_at_set_other}
use Rattle.rule_matching.proofs.store_marks.with_distance.Goals as goal

pub returns-clause-set : goal.returns-clause-set
returns-clause-set c = ap (λ b. nat_eq b 1) (bit_at_set_same w64 c.args.distances c.args.distance c.requires)

pub returns-clause-others : goal.returns-clause-others
returns-clause-others c = λ d other. ap (λ b. nat_eq b 1) (bit_at_set_other w64 c.args.distances c.args.distance c.requires d other)

use Rattle.std.proofs.Common.{arith}
use Rattle.std.proofs.lemmas.Grind.{common_steps}
use Rattle.rule_index.proofs.Walk.{six_stand}
use Rattle.rule_index.proofs.candidates.Candidates.of.Goals as goal

pub invariant_of-result-2 : goal.invariant_of-result-2
invariant_of-result-2 c = (
  omega arith,
  six_stand c.args.rows.now c.of.result c.of-2.result c.of-3.result c.of-4.result c.of-5.result c.of-6.result c.of.ensures.stands c.of-2.ensures.stands
      c.of-3.ensures.stands c.of-4.ensures.stands c.of-5.ensures.stands c.of-6.ensures.stands,
  record {
    among = (0, omega arith, grind (arith, common_steps));
    stands = λ classes index k d before. absurd (omega arith);
    alone = λ classes index n j behind before. absurd (omega arith);
  },
)

pub invariant_of-result : goal.invariant_of-result
invariant_of-result c = grind (arith, common_steps)

pub returns : goal.returns
returns c = grind (arith, common_steps)

use Rattle.std.proofs.Common.{◌+◌, length, refl, ap, arith}
use Rattle.kmx_decompiler.proofs.LeastPlaces.{rules_step}
use Rattle.kmx_decompiler.proofs.places.in_rules.Goals as goal

pub in_rule-least-requires : goal.in_rule-least-requires
in_rule-least-requires c = omega (arith, c.requires, c.loop-rule.invariant.place, ap length c.in-Some.ensures.steps)

pub overflow_add-place : goal.overflow_add-place
overflow_add-place c = omega (arith, c.requires, c.loop-rule.invariant.place, ap length c.in-Some.ensures.steps)

pub loop-rule-preserved : goal.loop-rule-preserved
loop-rule-preserved c = record {
  least = rules_step c.args.names.now c.loop-rule.place _ c.in-Some.rule c.next.new.self c.loop-rule.rule-iterator
      c.in_rule-least.result c.loop-rule.least _ c.in-Some.ensures.steps c.in_rule-least.ensures refl c.loop-rule.invariant.least;
  place = omega (arith, c.loop-rule.invariant.place, ap length c.in-Some.ensures.steps);
}

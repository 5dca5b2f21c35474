use Rattle.std.proofs.Common.{rules, arith}
use Rattle.std.proofs.lemmas.Grind.{common_steps}
use Rattle.kmx_writer.proofs.places.places_of.Goals as goal

pub returns : goal.returns
returns c = search rules

pub overflow_mul-groups : goal.overflow_mul-groups
overflow_mul-groups c = grind (arith, common_steps)

pub overflow_add-groups : goal.overflow_add-groups
overflow_add-groups c = grind (arith, common_steps)

pub overflow_mul-rules : goal.overflow_mul-rules
overflow_mul-rules c = grind (arith, common_steps)

pub overflow_add-rules : goal.overflow_add-rules
overflow_add-rules c = grind (arith, common_steps)

pub overflow_mul-store_strings : goal.overflow_mul-store_strings
overflow_mul-store_strings c = grind (arith, common_steps)

pub overflow_add-store_strings : goal.overflow_add-store_strings
overflow_add-store_strings c = grind (arith, common_steps)

pub overflow_add-group_strings : goal.overflow_add-group_strings
overflow_add-group_strings c = grind (arith, common_steps)

pub overflow_add-rule_strings : goal.overflow_add-rule_strings
overflow_add-rule_strings c = grind (arith, common_steps)

pub overflow_add-picture : goal.overflow_add-picture
overflow_add-picture c = grind (arith, common_steps)

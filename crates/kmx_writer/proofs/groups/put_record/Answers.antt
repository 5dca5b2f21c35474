use Rattle.std.proofs.Common.{rules, arith}
use Rattle.std.proofs.lemmas.Grind.{common_steps}
use Rattle.kmx_writer.proofs.Strings.{offset_of_string, offset_of_list}
use Rattle.kmx_writer.proofs.groups.put_record.Goals as goal

pub returns-clause-bytes : goal.returns-clause-bytes
returns-clause-bytes c = search (rules, offset_of_string, offset_of_list)

pub name_size-name_bytes-requires-clause-fits : goal.name_size-name_bytes-requires-clause-fits
name_size-name_bytes-requires-clause-fits c = grind (arith, common_steps)

pub overflow_cast-name_bytes : goal.overflow_cast-name_bytes
overflow_cast-name_bytes c = grind (arith, common_steps)

pub string_size-match_bytes-requires-clause-fits : goal.string_size-match_bytes-requires-clause-fits
string_size-match_bytes-requires-clause-fits c = grind (arith, common_steps)

pub overflow_cast-match_bytes : goal.overflow_cast-match_bytes
overflow_cast-match_bytes c = grind (arith, common_steps)

pub string_size-nomatch_bytes-requires-clause-fits : goal.string_size-nomatch_bytes-requires-clause-fits
string_size-nomatch_bytes-requires-clause-fits c = grind (arith, common_steps)

pub overflow_cast-nomatch_bytes : goal.overflow_cast-nomatch_bytes
overflow_cast-nomatch_bytes c = grind (arith, common_steps)

pub overflow_add-place : goal.overflow_add-place
overflow_add-place c = grind (arith, common_steps)

pub overflow_add-place-2 : goal.overflow_add-place-2
overflow_add-place-2 c = grind (arith, common_steps)

pub overflow_add-place-3 : goal.overflow_add-place-3
overflow_add-place-3 c = grind (arith, common_steps)

pub overflow_add-result : goal.overflow_add-result
overflow_add-result c = grind (arith, common_steps)

pub overflow_add-result-2 : goal.overflow_add-result-2
overflow_add-result-2 c = grind (arith, common_steps)

pub overflow_add-result-3 : goal.overflow_add-result-3
overflow_add-result-3 c = grind (arith, common_steps)

pub returns-clause-next : goal.returns-clause-next
returns-clause-next c = grind (arith, common_steps)

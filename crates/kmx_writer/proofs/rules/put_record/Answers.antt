use Rattle.std.proofs.Common.{rules, arith}
use Rattle.std.proofs.lemmas.Grind.{common_steps}
use Rattle.kmx_writer.proofs.Strings.{offset_of_string}
use Rattle.kmx_writer.proofs.rules.put_record.Goals as goal

pub returns-clause-bytes : goal.returns-clause-bytes
returns-clause-bytes c = search (rules, offset_of_string)

pub string_size-context_bytes-requires-clause-fits : goal.string_size-context_bytes-requires-clause-fits
string_size-context_bytes-requires-clause-fits c = grind (arith, common_steps)

pub overflow_cast-context_bytes : goal.overflow_cast-context_bytes
overflow_cast-context_bytes c = grind (arith, common_steps)

pub string_size-output_bytes-requires-clause-fits : goal.string_size-output_bytes-requires-clause-fits
string_size-output_bytes-requires-clause-fits c = grind (arith, common_steps)

pub overflow_cast-output_bytes : goal.overflow_cast-output_bytes
overflow_cast-output_bytes c = grind (arith, common_steps)

pub overflow_add-place : goal.overflow_add-place
overflow_add-place c = grind (arith, common_steps)

pub overflow_add-result : goal.overflow_add-result
overflow_add-result c = grind (arith, common_steps)

pub overflow_add-result-2 : goal.overflow_add-result-2
overflow_add-result-2 c = grind (arith, common_steps)

pub returns-clause-next : goal.returns-clause-next
returns-clause-next c = grind (arith, common_steps)

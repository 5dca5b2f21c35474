use Rattle.std.proofs.Common.{rules, arith}
use Rattle.std.proofs.lemmas.Grind.{common_steps}
use Rattle.kmx_writer.proofs.Strings.{offset_of_string}
use Rattle.kmx_writer.proofs.stores.put_record.Goals as goal

pub returns-clause-bytes : goal.returns-clause-bytes
returns-clause-bytes c = search (rules, offset_of_string)

pub name_size-name_bytes-requires-clause-fits : goal.name_size-name_bytes-requires-clause-fits
name_size-name_bytes-requires-clause-fits c = grind (arith, common_steps)

pub overflow_cast-name_bytes : goal.overflow_cast-name_bytes
overflow_cast-name_bytes c = grind (arith, common_steps)

pub string_size-element_bytes-requires-clause-fits : goal.string_size-element_bytes-requires-clause-fits
string_size-element_bytes-requires-clause-fits c = grind (arith, common_steps)

pub overflow_cast-element_bytes : goal.overflow_cast-element_bytes
overflow_cast-element_bytes c = grind (arith, common_steps)

pub overflow_add-place : goal.overflow_add-place
overflow_add-place c = grind (arith, common_steps)

pub overflow_add-result : goal.overflow_add-result
overflow_add-result c = grind (arith, common_steps)

pub overflow_add-result-2 : goal.overflow_add-result-2
overflow_add-result-2 c = grind (arith, common_steps)

pub returns-clause-next : goal.returns-clause-next
returns-clause-next c = grind (arith, common_steps)

use Rattle.std.proofs.Common.{rules, arith}
use Rattle.std.proofs.lemmas.Grind.{common_steps}
use Rattle.kmx_format.specs.File.{file_of}
use Rattle.kmx_writer.proofs.file.file.Goals as goal

pub returns : goal.returns
unfolding file_of
returns c = search rules

pub overflow_add-places : goal.overflow_add-places
unfolding file_of
overflow_add-places c = grind (arith, common_steps)

pub overflow_cast-places : goal.overflow_cast-places
unfolding file_of
overflow_cast-places c = grind (arith, common_steps)

pub overflow_cast-places-2 : goal.overflow_cast-places-2
unfolding file_of
overflow_cast-places-2 c = grind (arith, common_steps)

pub overflow_cast-places-3 : goal.overflow_cast-places-3
unfolding file_of
overflow_cast-places-3 c = grind (arith, common_steps)

pub overflow_cast-places-4 : goal.overflow_cast-places-4
unfolding file_of
overflow_cast-places-4 c = grind (arith, common_steps)

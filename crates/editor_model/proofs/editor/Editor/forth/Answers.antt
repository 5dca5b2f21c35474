use Rattle.std.proofs.Common.{arith}
use Rattle.std.proofs.lemmas.Grind.{common_steps}
use Rattle.editor_model.proofs.Moves.{left_after_forth, right_after_forth}
use Rattle.editor_model.proofs.editor.Editor.forth.Goals as goal

pub returns-clause-room : goal.returns-clause-room
returns-clause-room c = grind (arith, left_after_forth, right_after_forth)

pub invariant_of-self : goal.invariant_of-self
invariant_of-self c = grind (arith, common_steps)

pub returns-clause-left : goal.returns-clause-left
returns-clause-left c = grind (arith, common_steps)

pub overflow_add-end : goal.overflow_add-end
overflow_add-end c = grind (arith, common_steps)

pub overflow_add-self : goal.overflow_add-self
overflow_add-self c = grind (arith, common_steps)

use Rattle.std.proofs.Common.{arith}
use Rattle.std.proofs.lemmas.Grind.{common_steps}
use Rattle.editor_model.proofs.editor.Editor.passed.Goals as goal

pub returns-then-not-is_plain-clause-left : goal.returns-then-not-is_plain-clause-left
returns-then-not-is_plain-clause-left c = grind (arith, common_steps)

pub returns-then-not-is_plain-clause-right : goal.returns-then-not-is_plain-clause-right
returns-then-not-is_plain-clause-right c = grind (arith, common_steps)

pub returns-then-not-is_plain-clause-room : goal.returns-then-not-is_plain-clause-room
returns-then-not-is_plain-clause-room c = grind (arith, common_steps)

pub returns-in-13-clause-left : goal.returns-in-13-clause-left
returns-in-13-clause-left c = grind (arith, common_steps)

pub returns-in-13-clause-right : goal.returns-in-13-clause-right
returns-in-13-clause-right c = grind (arith, common_steps)

pub returns-in-13-clause-room : goal.returns-in-13-clause-room
returns-in-13-clause-room c = grind (arith, common_steps)

pub returns-in-9-clause-left : goal.returns-in-9-clause-left
returns-in-9-clause-left c = grind (arith, common_steps)

pub returns-in-9-clause-right : goal.returns-in-9-clause-right
returns-in-9-clause-right c = grind (arith, common_steps)

pub returns-in-9-clause-room : goal.returns-in-9-clause-room
returns-in-9-clause-room c = grind (arith, common_steps)

pub returns-in-37-clause-left : goal.returns-in-37-clause-left
returns-in-37-clause-left c = grind (arith, common_steps)

pub returns-in-37-clause-right : goal.returns-in-37-clause-right
returns-in-37-clause-right c = grind (arith, common_steps)

pub returns-in-37-clause-room : goal.returns-in-37-clause-room
returns-in-37-clause-room c = grind (arith, common_steps)

pub returns-in-39-clause-left : goal.returns-in-39-clause-left
returns-in-39-clause-left c = grind (arith, common_steps)

pub returns-in-39-clause-right : goal.returns-in-39-clause-right
returns-in-39-clause-right c = grind (arith, common_steps)

pub returns-in-39-clause-room : goal.returns-in-39-clause-room
returns-in-39-clause-room c = grind (arith, common_steps)

pub returns-in-36-clause-left : goal.returns-in-36-clause-left
returns-in-36-clause-left c = grind (arith, common_steps)

pub returns-in-36-clause-right : goal.returns-in-36-clause-right
returns-in-36-clause-right c = grind (arith, common_steps)

pub returns-in-36-clause-room : goal.returns-in-36-clause-room
returns-in-36-clause-room c = grind (arith, common_steps)

pub returns-in-35-clause-left : goal.returns-in-35-clause-left
returns-in-35-clause-left c = grind (arith, common_steps)

pub returns-in-35-clause-right : goal.returns-in-35-clause-right
returns-in-35-clause-right c = grind (arith, common_steps)

pub returns-in-35-clause-room : goal.returns-in-35-clause-room
returns-in-35-clause-room c = grind (arith, common_steps)

pub returns-in-46-clause-left : goal.returns-in-46-clause-left
returns-in-46-clause-left c = grind (arith, common_steps)

pub returns-in-46-clause-right : goal.returns-in-46-clause-right
returns-in-46-clause-right c = grind (arith, common_steps)

pub returns-in-46-clause-room : goal.returns-in-46-clause-room
returns-in-46-clause-room c = grind (arith, common_steps)

pub returns-in_default-clause-left : goal.returns-in_default-clause-left
returns-in_default-clause-left c = grind (arith, common_steps)

pub returns-in_default-clause-right : goal.returns-in_default-clause-right
returns-in_default-clause-right c = grind (arith, common_steps)

pub returns-in_default-clause-room : goal.returns-in_default-clause-room
returns-in_default-clause-room c = grind (arith, common_steps)

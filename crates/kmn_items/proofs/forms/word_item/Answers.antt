use Rattle.std.proofs.Common.{arith}
use Rattle.std.proofs.lemmas.Grind.{common_steps}
use Rattle.kmn_items.proofs.forms.word_item.Goals as goal

pub returns-in_ok-name-in-Dead : goal.returns-in_ok-name-in-Dead
returns-in_ok-name-in-Dead c = grind (arith, common_steps)

pub returns-in_ok-name-in-Any : goal.returns-in_ok-name-in-Any
returns-in_ok-name-in-Any c = grind (arith, common_steps)

pub returns-in_ok-name-in-NotAny : goal.returns-in_ok-name-in-NotAny
returns-in_ok-name-in-NotAny c = grind (arith, common_steps)

pub returns-in_ok-name-in-Outs : goal.returns-in_ok-name-in-Outs
returns-in_ok-name-in-Outs c = grind (arith, common_steps)

pub returns-in_ok-name-in-Use : goal.returns-in_ok-name-in-Use
returns-in_ok-name-in-Use c = grind (arith, common_steps)

pub returns-in_ok-name-in-Save : goal.returns-in_ok-name-in-Save
returns-in_ok-name-in-Save c = grind (arith, common_steps)

pub returns-in_ok-name-in-Reset : goal.returns-in_ok-name-in-Reset
returns-in_ok-name-in-Reset c = grind (arith, common_steps)

pub returns-in_ok-name-in-Call : goal.returns-in_ok-name-in-Call
returns-in_ok-name-in-Call c = grind (arith, common_steps)

pub returns-in-If : goal.returns-in-If
returns-in-If c = grind (arith, common_steps)

pub returns-in-Set : goal.returns-in-Set
returns-in-Set c = grind (arith, common_steps)

pub returns-in-Dollar : goal.returns-in-Dollar
returns-in-Dollar c = grind (arith, common_steps)

pub returns-in-Index : goal.returns-in-Index
returns-in-Index c = grind (arith, common_steps)

pub returns-in-ContextAt : goal.returns-in-ContextAt
returns-in-ContextAt c = grind (arith, common_steps)

pub returns-in-Context : goal.returns-in-Context
returns-in-Context c = grind (arith, common_steps)

pub returns-in-Nul : goal.returns-in-Nul
returns-in-Nul c = grind (arith, common_steps)

pub returns-in-Beep : goal.returns-in-Beep
returns-in-Beep c = grind (arith, common_steps)

pub returns-in-Return : goal.returns-in-Return
returns-in-Return c = grind (arith, common_steps)

pub returns-in_ok-quoted-in-Layer : goal.returns-in_ok-quoted-in-Layer
returns-in_ok-quoted-in-Layer c = grind (arith, common_steps)

pub returns-in_ok-value-in-Platform : goal.returns-in_ok-value-in-Platform
returns-in_ok-value-in-Platform c = grind (arith, common_steps)

pub returns-in-Switch : goal.returns-in-Switch
returns-in-Switch c = grind (arith, common_steps)

use Rattle.std.proofs.Common.{arith}
use Rattle.std.proofs.lemmas.Grind.{common_steps}
use Rattle.item_codec.proofs.spelled.spell.Goals as goal

pub returns-in-Char : goal.returns-in-Char
returns-in-Char c = grind (arith, common_steps)

pub returns-in-Any : goal.returns-in-Any
returns-in-Any c = grind (arith, common_steps)

pub returns-in-Index : goal.returns-in-Index
returns-in-Index c = grind (arith, common_steps)

pub returns-in-Context : goal.returns-in-Context
returns-in-Context c = grind (arith, common_steps)

pub returns-in-Nul : goal.returns-in-Nul
returns-in-Nul c = grind (arith, common_steps)

pub returns-in-Enter : goal.returns-in-Enter
returns-in-Enter c = grind (arith, common_steps)

pub returns-in-Stop : goal.returns-in-Stop
returns-in-Stop c = grind (arith, common_steps)

pub returns-in-Beep : goal.returns-in-Beep
returns-in-Beep c = grind (arith, common_steps)

pub returns-in-Dead : goal.returns-in-Dead
returns-in-Dead c = grind (arith, common_steps)

pub returns-in-Key : goal.returns-in-Key
returns-in-Key c = grind (arith, common_steps)

pub returns-in-ContextAt : goal.returns-in-ContextAt
returns-in-ContextAt c = grind (arith, common_steps)

pub returns-in-NotAny : goal.returns-in-NotAny
returns-in-NotAny c = grind (arith, common_steps)

pub returns-in-Set : goal.returns-in-Set
returns-in-Set c = grind (arith, common_steps)

pub returns-in-Test : goal.returns-in-Test
returns-in-Test c = grind (arith, common_steps)

pub returns-in-Save : goal.returns-in-Save
returns-in-Save c = grind (arith, common_steps)

pub returns-in-Reset : goal.returns-in-Reset
returns-in-Reset c = grind (arith, common_steps)

pub returns-in-SystemTest : goal.returns-in-SystemTest
returns-in-SystemTest c = grind (arith, common_steps)

pub returns-in-SetSystem : goal.returns-in-SetSystem
returns-in-SetSystem c = grind (arith, common_steps)

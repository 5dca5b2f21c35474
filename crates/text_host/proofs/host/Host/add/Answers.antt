use Rattle.std.proofs.Common.{rules, arith}
use Rattle.text_host.proofs.Fields.{one_more}
use Rattle.text_host.proofs.host.Host.add.Goals as goal

pub returns-then-len-ge-FIELDS-clause-number : goal.returns-then-len-ge-FIELDS-clause-number
returns-then-len-ge-FIELDS-clause-number c = grind (arith, one_more)

pub returns-then-len-ge-FIELDS-clause-leaves : goal.returns-then-len-ge-FIELDS-clause-leaves
returns-then-len-ge-FIELDS-clause-leaves c = grind (arith, one_more)

pub returns-then-len-ge-FIELDS-clause-room : goal.returns-then-len-ge-FIELDS-clause-room
returns-then-len-ge-FIELDS-clause-room c = grind (arith, one_more)

pub returns-then-len-ge-FIELDS-clause-refused : goal.returns-then-len-ge-FIELDS-clause-refused
returns-then-len-ge-FIELDS-clause-refused c = grind (arith, one_more)

pub returns-then-len-ge-FIELDS-clause-unchanged : goal.returns-then-len-ge-FIELDS-clause-unchanged
returns-then-len-ge-FIELDS-clause-unchanged c = grind (arith, one_more)

pub invariant_of-self : goal.invariant_of-self
invariant_of-self c = grind (arith, one_more)

pub returns-clause-number : goal.returns-clause-number
returns-clause-number c = grind (arith, one_more)

pub returns-clause-leaves : goal.returns-clause-leaves
returns-clause-leaves c = grind (arith, one_more)

pub returns-clause-room : goal.returns-clause-room
returns-clause-room c = grind (arith, one_more)

pub returns-clause-unchanged : goal.returns-clause-unchanged
returns-clause-unchanged c = grind (arith, one_more)

pub returns-clause-refused : goal.returns-clause-refused
returns-clause-refused c = search rules

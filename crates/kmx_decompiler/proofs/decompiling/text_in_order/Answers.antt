use Rattle.kmx_decompiler.proofs.Refusing.{keys, unspelled_cause, written, few_keys, unspelled_excess}
use Rattle.std.proofs.Common.{arith}
use Rattle.kmx_decompiler.proofs.decompiling.text_in_order.Goals as goal

pub returns-in-Some-clause-refused : goal.returns-in-Some-clause-refused
returns-in-Some-clause-refused c =
    unspelled_cause c.args.bytes.now c.args.file.now c.in-Some.at c.in_ok-at.field-0 c.requires.tables c.requires.order c.in_ok-at.ensures c.in-Some.is

pub text_within-requires-clause-written : goal.text_within-requires-clause-written
text_within-requires-clause-written c =
    written c.args.bytes.now c.args.file.now c.in_ok-at.field-0 c.requires.tables c.requires.playable c.requires.order c.in_ok-at.ensures c.in-None.is

pub text_within-requires-clause-keys : goal.text_within-requires-clause-keys
text_within-requires-clause-keys c =
    keys c.args.bytes.now c.args.file.now c.in_ok-at.field-0 c.requires.tables c.requires.order c.in_ok-at.ensures c.in-None.is

pub returns-in-Some-clause-text : goal.returns-in-Some-clause-text
returns-in-Some-clause-text c = grind (arith, few_keys, unspelled_excess)

pub returns-in-Some-clause-spelled : goal.returns-in-Some-clause-spelled
returns-in-Some-clause-spelled c = grind (arith, few_keys, unspelled_excess)

pub returns-clause-text : goal.returns-clause-text
returns-clause-text c = grind (arith, few_keys, unspelled_excess)

pub returns-clause-spelled : goal.returns-clause-spelled
returns-clause-spelled c = grind (arith, few_keys, unspelled_excess)

pub returns-clause-refused : goal.returns-clause-refused
returns-clause-refused c = grind (arith, few_keys, unspelled_excess)

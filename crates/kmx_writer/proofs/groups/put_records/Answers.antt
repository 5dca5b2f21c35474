use Rattle.std.proofs.Common.{arith}
use Rattle.std.proofs.lemmas.Grind.{common_steps}
use Rattle.kmx_writer.proofs.groups.put_records.Goals as goal

pub put_record-requires-clause-spellable : goal.put_record-requires-clause-spellable
put_record-requires-clause-spellable c = rw c.group-item.is (c.requires.spellable c.loop-group.group-index _ c.loop-group-test.true)

pub loop-group-preserved : goal.loop-group-preserved
loop-group-preserved c = grind (arith, common_steps)

pub returns : goal.returns
returns c = grind (arith, common_steps)

use Rattle.kmx_writer.proofs.rules.put_records.Goals as goal

pub put_record-requires-clause-spellable : goal.put_record-requires-clause-spellable
put_record-requires-clause-spellable c = rw c.rule-item.is (c.requires.spellable c.loop-rule.rule-index _ c.loop-rule-test.true)

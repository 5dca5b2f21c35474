use Rattle.kmx_writer.proofs.rules.all_strings_size.Goals as goal

pub strings_size-size-requires-clause-spellable : goal.strings_size-size-requires-clause-spellable
strings_size-size-requires-clause-spellable c = rw c.rule-item.is (c.requires.spellable c.loop-rule.rule-index _ c.loop-rule-test.true)

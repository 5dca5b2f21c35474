use Rattle.kmx_writer.proofs.groups.all_strings_size.Goals as goal

pub strings_size-size-requires-clause-spellable : goal.strings_size-size-requires-clause-spellable
strings_size-size-requires-clause-spellable c = rw c.group-item.is (c.requires.spellable c.loop-group.group-index _ c.loop-group-test.true)

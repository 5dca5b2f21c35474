use Rattle.kmx_writer.proofs.groups.put_strings.Goals as goal

pub put_group_strings-requires : goal.put_group_strings-requires
put_group_strings-requires c = rw c.group-item.is (c.requires c.loop-group.group-index _ c.loop-group-test.true)

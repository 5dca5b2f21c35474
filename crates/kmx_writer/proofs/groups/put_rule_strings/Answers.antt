use Rattle.std.proofs.lemmas.List.Elements.{All-same}
use Rattle.kmx_writer.specs.Spellings.{IsSpellableRule, IsSpellableGroup}
use Rattle.kmx_writer.proofs.groups.put_rule_strings.Goals as goal

pub put_strings-requires : goal.put_strings-requires
put_strings-requires c =
    let group : IsSpellableGroup c.group-item.result = rw c.group-item.is (c.requires c.loop-group.group-index _ c.loop-group-test.true) in
    All-same IsSpellableRule c.as_slice.result.now c.group-item.result.rules c.as_slice.ensures group.rules

use Rattle.std.proofs.lemmas.List.Elements.{All-same}
use Rattle.kmx_writer.specs.Spellings.{IsSpellableRule, IsSpellableGroup}
use Rattle.kmx_writer.proofs.groups.rule_strings_size.Goals as goal

pub all_strings_size-size-requires-clause-spellable : goal.all_strings_size-size-requires-clause-spellable
all_strings_size-size-requires-clause-spellable c =
    let group : IsSpellableGroup c.group-item.result = rw c.group-item.is (c.requires.spellable c.loop-group.group-index _ c.loop-group-test.true) in
    All-same IsSpellableRule c.as_slice.result.now c.group-item.result.rules c.as_slice.ensures group.rules

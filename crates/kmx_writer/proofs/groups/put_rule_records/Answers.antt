use Rattle.std.proofs.Common.{◌+◌, ◌++◌, List, drop, sym, ap, ◌∙◌}
use Rattle.std.specs.List.{flat_map}
use Rattle.std.proofs.lemmas.List.Elements.{All-same}
use Rattle.rule_model.specs.declared.tables.Rule.{Rule}
use Rattle.kmx_format.specs.File.{rules_of}
use Rattle.kmx_writer.specs.Spellings.{IsSpellableRule, IsSpellableGroup}
use Rattle.kmx_writer.proofs.RuleSteps.{rules_from_group, puts_on}
use Rattle.kmx_writer.proofs.groups.put_rule_records.Goals as goal

pub put_records-requires-clause-spellable : goal.put_records-requires-clause-spellable
put_records-requires-clause-spellable c =
    let group : IsSpellableGroup c.group-item.result = rw c.group-item.is (c.requires.spellable c.loop-group.group-index _ c.loop-group-test.true) in
    All-same IsSpellableRule c.as_slice.result.now c.group-item.result.rules c.as_slice.ensures group.rules

pub loop-group-preserved : goal.loop-group-preserved
loop-group-preserved c =
    let first = c.as_slice.result.now in
    let others = flat_map rules_of (drop (c.loop-group.group-index + 1) c.args.groups.now) in
    let here = rules_from_group c.args.groups.now c.loop-group.group-index c.group-item.result c.loop-group-test.true c.group-item.is in
    puts_on c.loop-group.out c.put_records.new.out c.loop-group.place c.in_ok-place.place _ first others _ _
    (here ∙ ap (λ (rules : List Rule). rules ++ others) (sym c.as_slice.ensures)) c.in_ok-place.ensures.next c.in_ok-place.ensures.bytes c.loop-group.invariant

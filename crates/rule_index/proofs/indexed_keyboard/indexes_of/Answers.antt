use Rattle.std.proofs.Common.{List, sym, subst}
use Rattle.rule_index.specs.Groups.{RuleIndexValue}
use Rattle.rule_index.proofs.GroupIndexes.{AreIndexed, none_indexed, one_indexed, all_indexed, group_few}
use Rattle.rule_index.proofs.indexed_keyboard.indexes_of.Goals as goal

pub loop-group-init : goal.loop-group-init
loop-group-init c =
    rw (c.new-indexes.ensures.items, c.into_iter-group-iterator.ensures.into_iter_gives, c.groups-group-items.ensures) (none_indexed c.args.file.now.groups)

pub new-requires : goal.new-requires
new-requires c =
    group_few c.args.file.now.groups c.loop-group.indexes.items c.in-Some.group c.next.new.self c.requires
    (subst (AreIndexed c.args.file.now.groups c.loop-group.indexes.items) c.in-Some.ensures.steps c.loop-group.invariant)

pub loop-group-preserved : goal.loop-group-preserved
loop-group-preserved c =
    subst (λ (indexes : List RuleIndexValue). AreIndexed c.args.file.now.groups indexes c.next.new.self) (sym c.in_ok-push.ensures.items)
    (one_indexed c.args.file.now.groups c.loop-group.indexes.items c.in-Some.group c.next.new.self c.in_ok-index.index
    (subst (AreIndexed c.args.file.now.groups c.loop-group.indexes.items) c.in-Some.ensures.steps c.loop-group.invariant) c.in_ok-index.ensures)

pub returns : goal.returns
returns c =
    all_indexed c.args.file.now.groups c.loop-group.indexes.items
    (subst (AreIndexed c.args.file.now.groups c.loop-group.indexes.items) c.in-None.ensures.steps.0 c.loop-group.invariant)

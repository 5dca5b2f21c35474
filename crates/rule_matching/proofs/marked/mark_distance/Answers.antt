use Rattle.rule_matching.proofs.Holders.{marked_right}
use Rattle.rule_matching.proofs.marked.mark_distance.Goals as goal

pub returns-clause-right : goal.returns-clause-right
returns-clause-right c =
    marked_right c.args.choice.now.moment.now.tables c.args.choice.now.left.now c.args.distance c.item_before.result c.holders.result.now c.args.marks.now c.mark.new.self
    c.item_before.ensures c.holders.ensures c.mark.ensures.others_known c.mark.ensures.marked c.mark.ensures.others_marked c.mark.ensures.room c.requires.right

use Rattle.std.proofs.Common.{◌∙◌, sym}
use Rattle.rule_model.proofs.PlainContexts.{caught_last_with_room, caught_last_without_room}
use Rattle.plain_matching.proofs.matching.caught_last.Goals as goal

pub returns-then-not-has_room : goal.returns-then-not-has_room
returns-then-not-has_room c = caught_last_without_room _ c.args.indexed.now.stores c.args.context.now c.args.left.now (sym c.if-not-has_room.ensures.value)

pub returns : goal.returns
returns c =
    c.in_ok-caught.ensures
    ∙ caught_last_with_room _ c.args.indexed.now.stores c.args.context.now c.args.left.now _ _ (sym c.if-not-has_room.ensures.value) c.pattern_count.ensures c.new.ensures.items

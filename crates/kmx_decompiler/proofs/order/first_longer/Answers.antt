use Rattle.std.proofs.Common.{◌≡◌, length, rules}
use Rattle.std.proofs.lemmas.Bool.{lt-ltb, le-ltb}
use Rattle.kmx_decompiler.proofs.OrderSteps.{first_behind, longer_after, longer_here}
use Rattle.kmx_decompiler.proofs.order.first_longer.Goals as goal

pub loop-number-init : goal.loop-number-init
loop-number-init c =
    let size : c.item_count-previous.result ≡ length c.in_ok-first.first.context = search rules in
    first_behind c.args.group.now.rules c.in_ok-first.first c.item_count-previous.result c.in_ok-first.ensures size

pub returns-then-previous-length : goal.returns-then-previous-length
returns-then-previous-length c =
    let size : c.item_count-length.result ≡ length c.in_ok-rule.rule.context = search rules in
    longer_here c.args.group.now.rules c.loop-number.number c.loop-number.previous c.item_count-length.result c.in_ok-rule.rule _ c.in_ok-rule.ensures size
    (lt-ltb c.loop-number.previous c.item_count-length.result c.if-previous-length.true) c.loop-number.invariant

pub loop-number-preserved : goal.loop-number-preserved
loop-number-preserved c =
    let size : c.item_count-length.result ≡ length c.in_ok-rule.rule.context = search rules in
    longer_after c.args.group.now.rules c.loop-number.number c.loop-number.previous c.item_count-length.result c.in_ok-rule.rule _ c.in_ok-rule.ensures size
    (le-ltb c.loop-number.previous c.item_count-length.result c.if-previous-length.false) c.loop-number.invariant

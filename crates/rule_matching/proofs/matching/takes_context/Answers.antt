use Rattle.std.proofs.Common.{◌-◌, ◌+◌, ◌<◌, List, length, map, get_or, Option, ◌∙◌, ap, arith, length-drop}
use Rattle.std.specs.Prelude.{nat_eq, option_and_then}
use Rattle.std.proofs.lemmas.Grind.{common_steps}
use Rattle.kmn_base.specs.declared.items.Item.{Item}
use Rattle.rule_model.specs.declared.event_state.Catch.{Catch}
use Rattle.kmx_parts.specs.declared.context_item.ContextItem.{ContextItem}
use Rattle.kmx_parts.specs.declared.context_item.ContextItem.TheVariants.{Char}
use Rattle.rule_model.specs.declared.tables.Store.{Store}
use Rattle.rule_model.specs.Match.{Content}
use Rattle.rule_matching.specs.declared.taken.TakenItem.{TakenItem}
use Rattle.rule_matching.specs.Matching.{catch_of, caught_by_taken, item_before, item_meaning}
use Rattle.rule_matching.specs.MatchState.{content_at}
use Rattle.rule_matching.proofs.TakenItems.{one_is_taken, none_is_taken, all_is_taken}
use Rattle.rule_matching.proofs.matching.takes_context.Goals as goal

pub loop-item-preserved : goal.loop-item-preserved
loop-item-preserved c =
    let content : Content = content_at c.args.choice.now.moment.now in
    let stores : List Store = c.args.choice.now.moment.now.tables.stores in
    let left : List Item = c.args.choice.now.left.now in
    let context : List ContextItem = c.args.context.now in
    let taken : List TakenItem = c.loop-item.taken.items in
    let some : 0 < c.loop-item.ahead = omega (arith, c.if-ahead-eq0.false) in
    let next : List TakenItem → Option Catch = λ (before : List TakenItem). option_and_then
    (catch_of content (map (caught_by_taken content left) before) (item_meaning stores (get_or context c.loop-item.item-index (Char 0))))
    (item_before left (c.loop-item.ahead - 1)) in
    record {
      few = omega (
        arith,
        length-drop c.loop-item.item-index context,
        length-drop (c.loop-item.item-index + 1) context,
        c.loop-item-test.true,
        c.loop-item.invariant.few,
        c.push-in-Some.ensures.len,
      );
      within = omega (arith, c.loop-item.invariant.within);
      same = one_is_taken content left (nat_eq (length left) c.args.count) stores context c.loop-item.item-index c.loop-item.ahead taken _
          c.loop-item.invariant.within c.loop-item.invariant.same c.loop-item-test.true some c.if-not-takes_item.ensures c.in-Some.one c.push-in-Some.new.self.items
          (c.in-Some.ensures.taken ∙ ap next c.as_slice.ensures.value) c.push-in-Some.ensures.items;
      right = c.in-Some.ensures.right;
      rooms = c.in-Some.ensures.rooms ∙ c.loop-item.invariant.rooms;
    }

pub returns-in-None-clause-taken : goal.returns-in-None-clause-taken
returns-in-None-clause-taken c =
    let content : Content = content_at c.args.choice.now.moment.now in
    let stores : List Store = c.args.choice.now.moment.now.tables.stores in
    let left : List Item = c.args.choice.now.left.now in
    let context : List ContextItem = c.args.context.now in
    let taken : List TakenItem = c.loop-item.taken.items in
    let some : 0 < c.loop-item.ahead = omega (arith, c.if-ahead-eq0.false) in
    let next : List TakenItem → Option Catch = λ (before : List TakenItem). option_and_then
    (catch_of content (map (caught_by_taken content left) before) (item_meaning stores (get_or context c.loop-item.item-index (Char 0))))
    (item_before left (c.loop-item.ahead - 1)) in
    none_is_taken content left (nat_eq (length left) c.args.count) stores context c.loop-item.item-index c.loop-item.ahead taken _
    c.loop-item.invariant.within c.loop-item.invariant.same c.loop-item-test.true some c.if-not-takes_item.ensures
    (c.in-None.ensures.taken ∙ ap next c.as_slice.ensures.value)

pub returns-clause-taken : goal.returns-clause-taken
returns-clause-taken c =
    all_is_taken (content_at c.args.choice.now.moment.now) c.args.choice.now.left.now (nat_eq (length c.args.choice.now.left.now) c.args.count) c.args.choice.now.moment.now.tables.stores c.args.context.now
    c.loop-item.item-index c.loop-item.ahead c.loop-item.taken.items _ c.loop-item.invariant.within c.loop-item.invariant.same c.loop-item-test.false

pub returns-then-not-stands-clause-taken : goal.returns-then-not-stands-clause-taken
returns-then-not-stands-clause-taken c = grind (arith, common_steps)

pub push-requires : goal.push-requires
push-requires c = grind (arith, common_steps)

pub loop-item-preserved-then-not-takes_item : goal.loop-item-preserved-then-not-takes_item
loop-item-preserved-then-not-takes_item c = grind (arith, common_steps)

pub returns-then-ahead-eq0-clause-taken : goal.returns-then-ahead-eq0-clause-taken
returns-then-ahead-eq0-clause-taken c = grind (arith, common_steps)

pub push-requires-in-Some : goal.push-requires-in-Some
push-requires-in-Some c = grind (arith, common_steps)

pub returns-then-not-stands-clause-right : goal.returns-then-not-stands-clause-right
returns-then-not-stands-clause-right c = grind (arith, common_steps)

pub returns-then-not-stands-clause-rooms : goal.returns-then-not-stands-clause-rooms
returns-then-not-stands-clause-rooms c = grind (arith, common_steps)

pub returns-then-ahead-eq0-clause-right : goal.returns-then-ahead-eq0-clause-right
returns-then-ahead-eq0-clause-right c = grind (arith, common_steps)

pub returns-then-ahead-eq0-clause-rooms : goal.returns-then-ahead-eq0-clause-rooms
returns-then-ahead-eq0-clause-rooms c = grind (arith, common_steps)

pub returns-in-None-clause-right : goal.returns-in-None-clause-right
returns-in-None-clause-right c = grind (arith, common_steps)

pub returns-in-None-clause-rooms : goal.returns-in-None-clause-rooms
returns-in-None-clause-rooms c = grind (arith, common_steps)

pub returns-clause-right : goal.returns-clause-right
returns-clause-right c = grind (arith, common_steps)

pub returns-clause-rooms : goal.returns-clause-rooms
returns-clause-rooms c = grind (arith, common_steps)

use Rattle.std.proofs.Common.{◌≡◌, ◌+◌, ◌-◌, ◌≤◌, [], drop, length, map}
use Rattle.std.specs.Prelude.{nat_eq}
use Rattle.kmn_base.specs.declared.limits.TheConstants.{CONTEXT_ITEMS}
use Rattle.rule_matching.specs.Matching.{allowed_catches, caught_by_taken, item_meaning, RemembersRight}
use Rattle.rule_matching.specs.MatchState.{content_at}
use Rattle.rule_matching.specs.PlaceMemory.{rooms}
use Rattle.rule_matching.proofs.matching.takes_context.Given as goal

abbrev pub invariant-loop-item : goal.invariant-loop-item
invariant-loop-item l = record {
  few : length l.taken.items + length (drop l.item-index l.context) ≤ CONTEXT_ITEMS;
  within : l.ahead ≤ length l.choice.left.now;
  same : allowed_catches (content_at l.choice.moment.now) (nat_eq (length l.choice.left.now) l.count) (map (caught_by_taken (content_at l.choice.moment.now) l.choice.left.now) l.taken.items)
      (map (item_meaning l.choice.moment.now.tables.stores) (drop l.item-index l.context)) (drop (length l.choice.left.now - l.ahead) l.choice.left.now)
      ≡ allowed_catches (content_at l.choice.moment.now) (nat_eq (length l.choice.left.now) l.count) [] (map (item_meaning l.choice.moment.now.tables.stores) l.context) (drop (length l.choice.left.now - l.count) l.choice.left.now);
  right : RemembersRight l.choice.moment.now l.choice.left.now l.places;
  rooms : rooms l.places ≡ rooms l.fn.places;
}

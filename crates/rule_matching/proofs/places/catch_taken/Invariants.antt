use Rattle.std.proofs.Common.{◌≡◌, take}
use Rattle.rule_matching.specs.Matching.{caught_by_all, RemembersRight}
use Rattle.rule_matching.specs.MatchState.{content_at}
use Rattle.rule_matching.specs.PlaceMemory.{rooms}
use Rattle.rule_matching.proofs.places.catch_taken.Given as goal

abbrev pub invariant-loop-one : goal.invariant-loop-one
invariant-loop-one l = record {
  caught : l.caught ≡ caught_by_all (content_at l.choice.moment.now) l.choice.left.now (take l.one-index l.taken);
  right : RemembersRight l.choice.moment.now l.choice.left.now l.places;
  rooms : rooms l.places ≡ rooms l.fn.places;
}

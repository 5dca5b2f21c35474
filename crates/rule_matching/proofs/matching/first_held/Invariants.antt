use Rattle.std.proofs.Common.{◌≡◌, ◌≤◌, ◌-◌, length}
use Rattle.rule_index.specs.Classes.{matching_classes}
use Rattle.rule_matching.specs.Matching.{RemembersRight}
use Rattle.rule_matching.specs.MatchState.{content_at, is_held}
use Rattle.rule_matching.specs.PlaceMemory.{rooms}
use Rattle.rule_matching.proofs.Candidates.{first_from}
use Rattle.rule_matching.proofs.FirstHeld.{ArePassed}
use Rattle.rule_matching.proofs.matching.first_held.Given as goal

abbrev pub invariant-loop-number : goal.invariant-loop-number
invariant-loop-number l = record {
  rows : l.candidates.rows ≡ l.entered.records.now.rows;
  wanted : l.candidates.wanted ≡ matching_classes l.entered.press l.choice.left.now;
  within : l.candidates.from ≤ length l.entered.group.now.rules;
  same : first_from (content_at l.choice.moment.now) l.choice.left.now l.entered.press l.choice.moment.now.tables.stores l.entered.group.now.using_keys l.entered.group.now.rules l.candidates.from
      ≡ first_from (content_at l.choice.moment.now) l.choice.left.now l.entered.press l.choice.moment.now.tables.stores l.entered.group.now.using_keys l.entered.group.now.rules 0;
  passed : ArePassed (is_held l.choice.moment.now l.entered.group.now l.choice.left.now l.entered.press) l.entered.group.now.rules l.candidates.from;
  right : RemembersRight l.choice.moment.now l.choice.left.now l.places;
  rooms : rooms l.places ≡ rooms l.fn.places;
  kept : l.caught ≡ l.fn.caught;
}

abbrev pub decreases-loop-number : goal.decreases-loop-number
decreases-loop-number l = length l.entered.group.now.rules - l.candidates.from

use Rattle.std.proofs.Common.{◌≡◌, ◌≢◌, ℕ, ◌<◌, ◌||◌, length, take}
use Rattle.rule_matching.specs.StoreMarks.{has_holder, is_marked_among, AreMarkedUntil}
use Rattle.rule_matching.proofs.store_marks.mark_holders.Given as goal

abbrev pub invariant-loop-holding : goal.invariant-loop-holding
invariant-loop-holding l = record {
  set : (s : ℕ) → s < length l.initial.marks → is_marked_among l.choice l.marks s l.distance
      ≡ (is_marked_among l.choice l.initial.marks s l.distance || has_holder (take l.holding-index l.holders) s);
  others : (s d : ℕ) → d ≢ l.distance → is_marked_among l.choice l.marks s d ≡ is_marked_among l.choice l.initial.marks s d;
  until : AreMarkedUntil l.choice l.initial.marks → AreMarkedUntil l.choice l.marks;
}

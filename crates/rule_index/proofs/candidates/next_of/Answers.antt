use Rattle.std.proofs.Common.{◌≡◌, ℕ, List, refl, length, subst, arith, rules}
use Rattle.std.proofs.lemmas.Bool.Decides.{nat_tests}
use Rattle.std.proofs.lemmas.Grind.{common_steps}
use Rattle.rule_index.specs.declared.cursor.Cursor.{Cursor}
use Rattle.rule_index.specs.declared.row.Row.{Row}
use Rattle.rule_index.proofs.Walk.{GoesOn, IsFirst, no_first, wanted_after, stand_after, first_is_moved, moved_limits, moved_behind, first_is_next, first_is_none, lead_stands}
use Rattle.rule_index.proofs.candidates.next_of.Goals.{Joined-number-least, then-number-least, else-number-least+then-least-number+then-number-limit, else-number-least+else-least-number, else-least-number-via-then-least-number+else-number-limit, else-least-number-via-else-least-number}
use Rattle.rule_index.proofs.candidates.next_of.Goals as goal

pub loop-k-init : goal.loop-k-init
loop-k-init c = record {
  wanted = refl;
  stand = λ stand. stand;
  first = no_first c.args.rows.now c.args.heads.now c.args.from c.args.lead.now.head;
}

step : (c : goal.Joined-number-least) → GoesOn c.args.rows.now c.args.from c.loop-k.k c.number-number.result c.args.heads.now c.loop-k.heads c.index-heads-k.result c.behind-head.result
step c = record {
  within = omega arith;
  same = c.loop-k.invariant.wanted;
  stand = c.loop-k.invariant.stand;
  class = c.behind-head.ensures.class;
  starts = c.behind-head.ensures.starts;
  found = c.number-number.ensures.value;
  small = c.number-number.ensures.small;
  inside = c.number-number.ensures.within;
}

all : {rows : List Row} {olds : List Cursor} {from least limit : ℕ} {first : Cursor} (k : ℕ) → IsFirst rows olds from k least limit first → k ≡ length olds
    → IsFirst rows olds from (length olds) least limit first
all {rows} {olds} {from} {least} {limit} {first} k is same = subst (λ (n : ℕ). IsFirst rows olds from n least limit first) same is

pub loop-k-preserved : goal.loop-k-preserved
loop-k-preserved c = record {
  wanted = wanted_after _ _ _ _ _ _ _ _ (step c);
  stand = stand_after _ _ _ _ _ _ _ _ (step c);
  first = elim c.if-number-least.branch [
    | then-number-least w ↦ rw w.first-is (rw w.least-is (rw w.limit-is
        (first_is_moved _ _ _ _ _ _ _ _ (step c) c.loop-k.least c.loop-k.limit c.loop-k.first c.loop-k.invariant.first (grind (arith, nat_tests, w.if-number-least.true)))))
    | else-number-least+then-least-number+then-number-limit w ↦ rw w.first-is (rw w.least-is (rw w.limit-is
        (moved_limits _ _ _ _ _ _ _ _ (step c) c.loop-k.least c.loop-k.limit c.loop-k.first c.loop-k.invariant.first
        (grind (arith, nat_tests, w.if-least-number.true)) (grind (arith, nat_tests, w.if-number-limit.true)))))
    | else-number-least+else-least-number w ↦ rw w.first-is (rw w.least-is (rw w.limit-is
        (moved_behind _ _ _ _ _ _ _ _ (step c) c.loop-k.least c.loop-k.limit c.loop-k.first c.loop-k.invariant.first
        (grind (arith, nat_tests, w.if-number-least.false)) (λ less. elim w.else-least-number.branch [
          | else-least-number-via-then-least-number+else-number-limit v ↦ grind (arith, nat_tests, v.if-number-limit.false)
          | else-least-number-via-else-least-number v ↦ absurd (grind (arith, nat_tests, v.if-least-number.false))
        ]))))
  ];
}

pub returns-then-least-eq-NO_ROW-clause-next : goal.returns-then-least-eq-NO_ROW-clause-next
returns-then-least-eq-NO_ROW-clause-next c = λ classes index stand.
    first_is_none c.args.rows.now c.args.heads.now c.args.from c.loop-k.least c.loop-k.limit c.loop-k.first (all c.loop-k.k c.loop-k.invariant.first (omega arith)) stand
    c.if-least-eq-NO_ROW.true classes index

pub overflow_add-first : goal.overflow_add-first
overflow_add-first c = let few = c.loop-k.invariant.first.few.0 in let within = c.loop-k.invariant.first.within (omega arith) in search (arith, rules)

pub invariant_of-lead : goal.invariant_of-lead
invariant_of-lead c = record { small = c.loop-k.invariant.first.few.1 }

pub returns-clause-next : goal.returns-clause-next
returns-clause-next c = λ classes index stand.
    first_is_next c.args.rows.now c.args.heads.now c.args.from c.loop-k.least c.loop-k.limit c.loop-k.first (all c.loop-k.k c.loop-k.invariant.first (omega arith)) stand
    (let few = c.loop-k.invariant.first.few.0 in omega arith) classes index

pub returns-clause-lead : goal.returns-clause-lead
returns-clause-lead c = λ stand stands.
    lead_stands c.args.rows.now c.args.heads.now c.args.from c.loop-k.least c.loop-k.limit c.loop-k.first (all c.loop-k.k c.loop-k.invariant.first (omega arith)) stand
    _ refl refl refl (let few = c.loop-k.invariant.first.few.0 in omega arith)

pub returns-clause-small : goal.returns-clause-small
returns-clause-small c = let few = c.loop-k.invariant.first.few.0 in omega arith

pub returns-then-least-eq-NO_ROW-clause-wanted : goal.returns-then-least-eq-NO_ROW-clause-wanted
returns-then-least-eq-NO_ROW-clause-wanted c = grind (arith, common_steps)

pub returns-then-least-eq-NO_ROW-clause-stand : goal.returns-then-least-eq-NO_ROW-clause-stand
returns-then-least-eq-NO_ROW-clause-stand c = grind (arith, common_steps)

pub returns-then-least-eq-NO_ROW-clause-lead : goal.returns-then-least-eq-NO_ROW-clause-lead
returns-then-least-eq-NO_ROW-clause-lead c = grind (arith, common_steps)

pub returns-then-least-eq-NO_ROW-clause-small : goal.returns-then-least-eq-NO_ROW-clause-small
returns-then-least-eq-NO_ROW-clause-small c = grind (arith, common_steps)

pub returns-clause-wanted : goal.returns-clause-wanted
returns-clause-wanted c = grind (arith, common_steps)

pub returns-clause-stand : goal.returns-clause-stand
returns-clause-stand c = grind (arith, common_steps)

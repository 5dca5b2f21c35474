use Rattle.std.proofs.Common.{◌≡◌, ◌+◌, ◌-◌, ◌<◌, ◌≤◌, Option, Some, None, length, sym, ◌∙◌, ap, subst, arith}
use Rattle.std.specs.Prelude.{option_map, slice_get}
use Rattle.std.proofs.lemmas.Grind.{common_steps}
use Rattle.kmn_base.specs.declared.keys.KeyPress.{KeyPress}
use Rattle.rule_index.specs.Classes.{matching_classes}
use Rattle.rule_index.specs.Next.{IsNext}
use Rattle.rule_index.specs.Walk.{CandidatesValue}
use Rattle.rule_model.specs.declared.event_state.Caught.{Caught}
use Rattle.rule_model.specs.Choose.{Chosen}
use Rattle.rule_model.specs.Match.{Content}
use Rattle.rule_model.specs.Tab.{tab_rule}
use Rattle.rule_matching.specs.Matching.{caught_by_all}
use Rattle.rule_matching.specs.MatchState.{content_at, held_record, is_held}
use Rattle.rule_matching.proofs.Candidates.{classes_of, first_from, walked, candidate_within, candidate_holds, candidate_passed, none_left}
use Rattle.rule_matching.proofs.FirstHeld.{candidate_found, none_found, passed_all, passed_one, passed_to, ArePassed}
use Rattle.rule_matching.proofs.matching.first_held.Goals as goal
use Rattle.rule_matching.proofs.matching.first_held.Goals.{In-Some}

-- the candidate is the next record with a class of the press and the list
next : (c : In-Some) → IsNext (matching_classes c.args.entered.now.press c.args.left.now) 6 (classes_of c.args.entered.now.group.now.using_keys c.args.entered.now.group.now.rules)
    c.loop-number.candidates.from (Some c.in-Some.number)
next c =
    walked c.loop-number.candidates c.args.entered.now.records.now.rows c.args.entered.now.press c.args.left.now c.args.entered.now.group.now.using_keys c.args.entered.now.group.now.rules (Some c.in-Some.number)
    c.loop-number.invariant.rows c.loop-number.invariant.wanted c.requires.index.records c.in-Some.ensures.next

within : (c : In-Some) → (c.loop-number.candidates.from ≤ c.in-Some.number) × (c.in-Some.number < length c.args.entered.now.group.now.rules)
within c =
    candidate_within c.args.entered.now.press c.args.left.now c.args.entered.now.group.now.using_keys c.args.entered.now.group.now.rules c.loop-number.candidates.from c.in-Some.number (next c)

-- the iterator continues after the candidate
forth : (c : In-Some) → c.next.new.self.from ≡ c.in-Some.number + 1
forth c = ap (λ (walk : CandidatesValue). walk.from) c.in-Some.ensures.rest

-- no record before the candidate holds
passed : (c : In-Some) → ArePassed (is_held c.args.moment.now c.args.entered.now.group.now c.args.left.now c.args.entered.now.press) c.args.entered.now.group.now.rules c.in-Some.number
passed c =
    passed_to c.args.moment.now c.args.entered.now.group.now c.args.left.now c.args.entered.now.press c.loop-number.candidates.from c.in-Some.number
    (next c) c.loop-number.invariant.passed

pub returns-in-Some-held_record-clause-first : goal.returns-in-Some-held_record-clause-first
returns-in-Some-held_record-clause-first c =
    candidate_found c.args.moment.now c.args.entered.now.group.now c.args.left.now c.args.entered.now.press c.in-Some.number
    c.in-Some-held_record.rule _ c.in-Some-held_record.ensures.there
    (sym (c.in-Some-held_record.ensures.held ∙ ap (λ (press : KeyPress). held_record (content_at c.args.moment.now) c.args.left.now press (option_map (tab_rule c.args.moment.now.tables.stores c.args.entered.now.group.now.using_keys)
    (slice_get c.args.entered.now.group.now.rules c.in-Some.number))) c.of.ensures))
    (passed (goal.at.returns-in-Some-held_record-clause-first c).In-Some)

pub returns-in-Some-held_record-clause-held : goal.returns-in-Some-held_record-clause-held
returns-in-Some-held_record-clause-held c =
    let content : Content = content_at c.args.moment.now in
    let whole : Caught → Option Chosen = λ (caught : Caught). Some (tab_rule c.args.moment.now.tables.stores c.args.entered.now.group.now.using_keys c.in-Some-held_record.rule, caught) in
    ap whole (c.catch_taken.ensures.caught ∙ ap (caught_by_all content c.args.left.now) c.as_slice.ensures.value)
    ∙ (sym (candidate_holds content c.args.left.now c.args.entered.now.press c.args.moment.now.tables.stores c.args.entered.now.group.now.using_keys c.args.entered.now.group.now.rules
    c.loop-number.candidates.from c.in-Some.number (next (goal.at.returns-in-Some-held_record-clause-held c).In-Some) _ (sym (c.in-Some-held_record.ensures.held ∙ ap (λ (press : KeyPress). held_record content c.args.left.now press (option_map (tab_rule c.args.moment.now.tables.stores c.args.entered.now.group.now.using_keys)
    (slice_get c.args.entered.now.group.now.rules c.in-Some.number))) c.of.ensures)))
    ∙ c.loop-number.invariant.same)

pub loop-number-smaller : goal.loop-number-smaller
loop-number-smaller c =
    let here = within (goal.at.loop-number-smaller c).In-Some in
    let on : c.next.new.self.from ≡ c.in-Some.number + 1 = forth (goal.at.loop-number-smaller c).In-Some in
    let less : length c.args.entered.now.group.now.rules - c.next.new.self.from < length c.args.entered.now.group.now.rules - c.loop-number.candidates.from
    = omega (arith, here.0, here.1, on) in
    less

pub loop-number-preserved : goal.loop-number-preserved
loop-number-preserved c =
    let here = within (goal.at.loop-number-preserved c).In-Some in
    let on : c.next.new.self.from ≡ c.in-Some.number + 1 = forth (goal.at.loop-number-preserved c).In-Some in
    record {
      rows = ap (λ (walk : CandidatesValue). walk.rows) c.in-Some.ensures.rest ∙ c.loop-number.invariant.rows;
      wanted = ap (λ (walk : CandidatesValue). walk.wanted) c.in-Some.ensures.rest ∙ c.loop-number.invariant.wanted;
      within = omega (arith, here.1, on);
      same = ap (first_from (content_at c.args.moment.now) c.args.left.now c.args.entered.now.press c.args.moment.now.tables.stores c.args.entered.now.group.now.using_keys c.args.entered.now.group.now.rules) on
          ∙ (sym (candidate_passed (content_at c.args.moment.now) c.args.left.now c.args.entered.now.press c.args.moment.now.tables.stores c.args.entered.now.group.now.using_keys c.args.entered.now.group.now.rules
          c.loop-number.candidates.from c.in-Some.number (next (goal.at.loop-number-preserved c).In-Some) (sym (c.in_default-held_record.ensures.held ∙ ap (λ (press : KeyPress). held_record (content_at c.args.moment.now) c.args.left.now press (option_map (tab_rule c.args.moment.now.tables.stores c.args.entered.now.group.now.using_keys)
          (slice_get c.args.entered.now.group.now.rules c.in-Some.number))) c.of.ensures)))
          ∙ c.loop-number.invariant.same);
      passed = subst (ArePassed (is_held c.args.moment.now c.args.entered.now.group.now c.args.left.now c.args.entered.now.press) c.args.entered.now.group.now.rules) (sym on)
          (passed_one c.args.moment.now c.args.entered.now.group.now c.args.left.now c.args.entered.now.press c.in-Some.number here.1
          (sym (c.in_default-held_record.ensures.held ∙ ap (λ (press : KeyPress). held_record (content_at c.args.moment.now) c.args.left.now press (option_map (tab_rule c.args.moment.now.tables.stores c.args.entered.now.group.now.using_keys)
          (slice_get c.args.entered.now.group.now.rules c.in-Some.number))) c.of.ensures))
          (passed (goal.at.loop-number-preserved c).In-Some));
      right = c.in_default-held_record.ensures.right;
      rooms = c.in_default-held_record.ensures.rooms ∙ c.loop-number.invariant.rooms;
      kept = c.loop-number.invariant.kept;
    }

pub returns-clause-held : goal.returns-clause-held
returns-clause-held c =
    let left = walked c.loop-number.candidates c.args.entered.now.records.now.rows c.args.entered.now.press c.args.left.now c.args.entered.now.group.now.using_keys c.args.entered.now.group.now.rules None
    c.loop-number.invariant.rows c.loop-number.invariant.wanted c.requires.index.records c.in_default.ensures.next in
    sym (none_left (content_at c.args.moment.now) c.args.left.now c.args.entered.now.press c.args.moment.now.tables.stores c.args.entered.now.group.now.using_keys c.args.entered.now.group.now.rules
    c.loop-number.candidates.from c.loop-number.invariant.within left)
    ∙ c.loop-number.invariant.same

pub returns-clause-first : goal.returns-clause-first
returns-clause-first c =
    let left = walked c.loop-number.candidates c.args.entered.now.records.now.rows c.args.entered.now.press c.args.left.now c.args.entered.now.group.now.using_keys c.args.entered.now.group.now.rules None
    c.loop-number.invariant.rows c.loop-number.invariant.wanted c.requires.index.records c.in_default.ensures.next in
    none_found (is_held c.args.moment.now c.args.entered.now.group.now c.args.left.now c.args.entered.now.press) c.args.entered.now.group.now.rules
    (passed_all c.args.moment.now c.args.entered.now.group.now c.args.left.now c.args.entered.now.press c.loop-number.candidates.from left c.loop-number.invariant.passed)

pub returns-in-Some-held_record-clause-none : goal.returns-in-Some-held_record-clause-none
returns-in-Some-held_record-clause-none c = grind (arith, common_steps)

pub returns-in-Some-held_record-clause-among : goal.returns-in-Some-held_record-clause-among
returns-in-Some-held_record-clause-among c = grind (arith, common_steps)

pub returns-in-Some-held_record-clause-right : goal.returns-in-Some-held_record-clause-right
returns-in-Some-held_record-clause-right c = grind (arith, common_steps)

pub returns-in-Some-held_record-clause-rooms : goal.returns-in-Some-held_record-clause-rooms
returns-in-Some-held_record-clause-rooms c = grind (arith, common_steps)

pub returns-clause-none : goal.returns-clause-none
returns-clause-none c = grind (arith, common_steps)

pub returns-clause-among : goal.returns-clause-among
returns-clause-among c = grind (arith, common_steps)

pub returns-clause-right : goal.returns-clause-right
returns-clause-right c = grind (arith, common_steps)

pub returns-clause-rooms : goal.returns-clause-rooms
returns-clause-rooms c = grind (arith, common_steps)

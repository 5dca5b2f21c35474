use Rattle.std.proofs.Common.{◌≤◌, Bool, List, length, map, Some, None, refl, sym, ◌∙◌, ap, arith, rules}
use Rattle.std.specs.Prelude.{if◌then◌else◌}
use Rattle.kmn_base.specs.declared.keys.RuleKey.{RuleKey}
use Rattle.kmn_base.specs.declared.keys.RuleKey.TheVariants as key
use Rattle.virtual_keys.specs.Fits.{key_fits}
use Rattle.rule_model.specs.declared.event_state.Catch.{Catch}
use Rattle.rule_matching.specs.Matching.{caught_by_taken}
use Rattle.rule_matching.specs.MatchState.{content_at}
use Rattle.rule_matching.proofs.HeldRecords.{items_few, items_held, short_not_held, uncaught_not_held, unfitting_not_held}
use Rattle.rule_matching.proofs.matching.held_record.Goals as goal

pub returns-then-choice-count-clause-held : goal.returns-then-choice-count-clause-held
returns-then-choice-count-clause-held c =
    short_not_held (content_at c.args.choice.now.moment.now) c.args.choice.now.pressed c.args.choice.now.moment.now.tables.stores c.args.entered.now.group.now c.args.entered.now.records.now c.args.number
    c.requires.index c.requires.short c.args.choice.now.left.now c.pattern_count-count.result c.pattern_count-count.ensures (omega (arith, c.if-choice-count.true))

pub takes_context-requires-clause-few : goal.takes_context-requires-clause-few
takes_context-requires-clause-few c =
    items_few c.args.entered.now.group.now c.args.entered.now.records.now c.args.number c.requires.index c.requires.short c.context.result.now c.context.ensures

pub returns-then-not-takes_context-clause-held : goal.returns-then-not-takes_context-clause-held
returns-then-not-takes_context-clause-held c =
    let few : c.pattern_count-count.result ≤ length c.args.choice.now.left.now = omega (arith, c.if-choice-count.false) in
    uncaught_not_held (content_at c.args.choice.now.moment.now) c.args.choice.now.pressed c.args.choice.now.moment.now.tables.stores c.args.entered.now.group.now c.args.entered.now.records.now c.args.number
    c.requires.index c.requires.short c.args.choice.now.left.now c.pattern_count-count.result c.pattern_count-count.ensures few c.context.result.now c.context.ensures
    None c.if-not-takes_context.ensures.taken refl

pub returns-then-fits-clause-held : goal.returns-then-fits-clause-held
returns-then-fits-clause-held c =
    let using : Bool → Bool = λ (using : Bool). key_fits (if using then c.in_ok-rule.rule.key else key.Any) c.args.choice.now.pressed in
    let fit = ap using (sym c.using_keys.ensures) ∙ ap (λ (wanted : RuleKey). key_fits wanted c.args.choice.now.pressed) (sym c.key_of.ensures) in
    let few : c.pattern_count-count.result ≤ length c.args.choice.now.left.now = omega (arith, c.if-choice-count.false) in
    let catches : List Catch = map (caught_by_taken (content_at c.args.choice.now.moment.now) c.args.choice.now.left.now) c.takes_context.new.taken.items in
    items_held (content_at c.args.choice.now.moment.now) c.args.choice.now.pressed c.args.choice.now.moment.now.tables.stores c.args.entered.now.group.now c.args.entered.now.records.now c.args.number
    c.requires.index c.requires.short c.args.choice.now.left.now c.pattern_count-count.result c.pattern_count-count.ensures few c.context.result.now c.context.ensures
    (Some catches) c.if-not-takes_context.ensures.taken c.in_ok-rule.rule (sym c.in_ok-rule.ensures) (fit ∙ sym c.if-fits.ensures)

pub returns-else-fits-clause-held : goal.returns-else-fits-clause-held
returns-else-fits-clause-held c =
    let using : Bool → Bool = λ (using : Bool). key_fits (if using then c.in_ok-rule.rule.key else key.Any) c.args.choice.now.pressed in
    let fit = ap using (sym c.using_keys.ensures) ∙ ap (λ (wanted : RuleKey). key_fits wanted c.args.choice.now.pressed) (sym c.key_of.ensures) in
    unfitting_not_held (content_at c.args.choice.now.moment.now) c.args.choice.now.pressed c.args.choice.now.moment.now.tables.stores c.args.entered.now.group.now c.args.entered.now.records.now c.args.number
    c.requires.index c.requires.short c.args.choice.now.left.now c.pattern_count-count.result c.pattern_count-count.ensures
    c.in_ok-rule.rule (sym c.in_ok-rule.ensures) (fit ∙ sym c.if-fits.ensures)

pub returns-then-choice-count-clause-there : goal.returns-then-choice-count-clause-there
returns-then-choice-count-clause-there c = search rules

pub returns-then-choice-count-clause-among : goal.returns-then-choice-count-clause-among
returns-then-choice-count-clause-among c = search rules

pub returns-then-choice-count-clause-right : goal.returns-then-choice-count-clause-right
returns-then-choice-count-clause-right c = search rules

pub returns-then-choice-count-clause-rooms : goal.returns-then-choice-count-clause-rooms
returns-then-choice-count-clause-rooms c = search rules

pub returns-then-not-takes_context-clause-there : goal.returns-then-not-takes_context-clause-there
returns-then-not-takes_context-clause-there c = search rules

pub returns-then-not-takes_context-clause-among : goal.returns-then-not-takes_context-clause-among
returns-then-not-takes_context-clause-among c = search rules

pub returns-then-not-takes_context-clause-right : goal.returns-then-not-takes_context-clause-right
returns-then-not-takes_context-clause-right c = search rules

pub returns-then-not-takes_context-clause-rooms : goal.returns-then-not-takes_context-clause-rooms
returns-then-not-takes_context-clause-rooms c = search rules

pub returns-then-fits-clause-there : goal.returns-then-fits-clause-there
returns-then-fits-clause-there c = search rules

pub returns-then-fits-clause-right : goal.returns-then-fits-clause-right
returns-then-fits-clause-right c = search rules

pub returns-then-fits-clause-rooms : goal.returns-then-fits-clause-rooms
returns-then-fits-clause-rooms c = search rules

pub returns-else-fits-clause-there : goal.returns-else-fits-clause-there
returns-else-fits-clause-there c = search rules

pub returns-else-fits-clause-among : goal.returns-else-fits-clause-among
returns-else-fits-clause-among c = search rules

pub returns-else-fits-clause-right : goal.returns-else-fits-clause-right
returns-else-fits-clause-right c = search rules

pub returns-else-fits-clause-rooms : goal.returns-else-fits-clause-rooms
returns-else-fits-clause-rooms c = search rules

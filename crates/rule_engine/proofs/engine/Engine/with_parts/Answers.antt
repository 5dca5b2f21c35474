use Rattle.std.proofs.Common.{◌≡◌, sym, ◌∙◌, ap, subst, arith}
use Rattle.std.specs.Prelude.{vec_capacity}
use Rattle.std.specs.Arc.{arc_value}
use Rattle.rule_model.specs.declared.tables.Tables.{Tables}
use Rattle.option_store.specs.Cells.{first_cells}
use Rattle.rule_matching.specs.MatchState.{truths_at}
use Rattle.rule_matching.specs.PlaceMemory.{rooms}
use Rattle.rule_engine.specs.Event.{match_state_with}
use Rattle.rule_engine.specs.Engine.{IsAtWork}
use Rattle.rule_engine.proofs.Engines.{first_is_at_work, first_values}
use Rattle.rule_engine.proofs.engine.Engine.with_parts.Goals as goal

pub invariant_of-result : goal.invariant_of-result
invariant_of-result c =
    let begun = c.begin.new.self in
    let same : arc_value c.in_ok-new.field-0 ≡ c.args.file = c.in_ok-new.ensures.ok ∙ c.in_ok-indexed.ensures in
    let right = c.begin.ensures.truths ∙ ap (λ (tables : Tables). truths_at (match_state_with tables begun.options)) c.in_ok-indexed.ensures in
    let cells = c.begin.ensures.options ∙ (c.in_ok-workspace.ensures.options ∙ ap (first_cells 0) c.keyboard_stores.ensures.value) in
    subst (λ (tables : Tables). IsAtWork tables begun.cache begun.options begun.truths.items begun.inserted (vec_capacity begun.chosen) (rooms begun.places)) (sym same)
    (first_is_at_work c.args.file begun.cache begun.options begun.truths.items begun.inserted (vec_capacity begun.chosen) (rooms begun.places) c.requires (c.begin.ensures.cache ∙ c.in_ok-workspace.ensures.cache)
    cells right (c.begin.ensures.inserted ∙ c.in_ok-workspace.ensures.inserted)
    (ap vec_capacity c.begin.ensures.chosen ∙ c.in_ok-workspace.ensures.lines)
    (ap rooms c.begin.ensures.places ∙ (c.in_ok-workspace.ensures.places ∙ (λ i. (c.keyboard_stores.ensures.value i, c.keyboard_stores.ensures.value i)))))

pub returns : goal.returns
returns c = grind (arith, first_is_at_work, first_values)

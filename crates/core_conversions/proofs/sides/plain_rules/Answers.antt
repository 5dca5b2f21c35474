use Rattle.std.proofs.Common.{length, ◌<◌, arith, ap, sym, ◌∙◌}
use Rattle.std.specs.Prelude.{slice_index_or, slice_set}
use Rattle.std.proofs.lemmas.List.Edits.{map_over_more}
use Rattle.rule_model.specs.declared.tables.Rule.{Rule}
use Rattle.core_conversions.specs.Conversions.{plain_rule}
use Rattle.core_conversions.proofs.sides.plain_rules.Goals as goal

pub loop-rule-preserved : goal.loop-rule-preserved
loop-rule-preserved c =
    let ys = c.loop-rule.rules in
    let i = c.loop-rule.rule-index in
    let x = c.rule-item.result in
    let within : i < length c.args.rules.now = omega arith in
    ap (λ key. slice_set ys i (record (slice_index_or ys i x) { key = key })) c.plain_key-rule.ensures
    ∙ ap (λ (y : Rule). slice_set ys i (plain_rule y)) (sym c.rule-item.is)
    ∙ map_over_more plain_rule c.args.rules.now ys i x within c.loop-rule.invariant c.rule-item.is

use Rattle.std.proofs.Common.{length, ◌<◌, arith, ap, sym, ◌∙◌}
use Rattle.std.specs.Prelude.{slice_set}
use Rattle.std.proofs.lemmas.List.Edits.{map_over_more}
use Rattle.rule_model.specs.declared.tables.Rule.{Rule}
use Rattle.core_conversions.specs.Conversions.{rule_with_nul_first}
use Rattle.core_conversions.proofs.nul.convert_rules.Goals as goal

pub loop-rule-preserved : goal.loop-rule-preserved
loop-rule-preserved c =
    let ys = c.loop-rule.rules in
    let i = c.loop-rule.rule-index in
    let x = c.rule-item.result in
    let within : i < length c.args.rules.now = omega arith in
    ap (slice_set ys i) c.convert_rule.ensures
    ∙ ap (λ (y : Rule). slice_set ys i (rule_with_nul_first y)) (sym c.rule-item.is)
    ∙ map_over_more rule_with_nul_first c.args.rules.now ys i x within c.loop-rule.invariant c.rule-item.is

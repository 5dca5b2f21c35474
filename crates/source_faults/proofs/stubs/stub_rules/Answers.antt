use Rattle.std.proofs.Common.{length, ◌<◌, arith, ap, sym, ◌∙◌}
use Rattle.std.specs.Prelude.{slice_set}
use Rattle.std.proofs.lemmas.List.Edits.{map_over_more}
use Rattle.rule_model.specs.declared.program.RuleDef.{RuleDef}
use Rattle.source_faults.specs.Stubs.{code_at, stub_rule}
use Rattle.source_faults.proofs.stubs.stub_rules.Goals as goal

pub loop-rule-preserved : goal.loop-rule-preserved
loop-rule-preserved c =
    let within : c.loop-rule.rule-index < length c.args.rules.now = omega (arith, c.loop-rule-test.true) in
    ap (slice_set c.loop-rule.rules c.loop-rule.rule-index) (c.stub_rule.ensures ∙ ap (λ (rule : RuleDef). stub_rule (code_at c.args.refused.now rule.line) rule) (sym c.rule-item.is))
    ∙ map_over_more (λ (rule : RuleDef). stub_rule (code_at c.args.refused.now rule.line) rule) c.args.rules.now c.loop-rule.rules c.loop-rule.rule-index c.rule-item.result within c.loop-rule.invariant c.rule-item.is

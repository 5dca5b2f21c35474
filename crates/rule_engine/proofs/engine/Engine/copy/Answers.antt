use Rattle.std.proofs.Common.{rules, ◌≡◌, length, ◌∙◌}
use Rattle.std.specs.Arc.{arc_value}
use Rattle.rule_model.specs.Tab.{tab}
use Rattle.rule_engine.proofs.Engines.{copy_is_at_work}
use Rattle.rule_engine.proofs.engine.Engine.copy.Goals as goal

pub invariant_of-result : goal.invariant_of-result
invariant_of-result c =
    let here = c.in_ok-workspace.ensures in
    let same : arc_value c.in_ok-try_clone.field-0 ≡ arc_value c.self.inside.indexed = search rules in
    let count : c.store_count.result ≡ length (tab (arc_value c.self.inside.indexed)).stores = search rules in
    copy_is_at_work _ _ _ _ _ _ _ _ _ _ _ _ _ _ c.self.invariant same here.cache here.options here.truths here.inserted here.lines
    (here.places ∙ (λ i. (count i, count i)))

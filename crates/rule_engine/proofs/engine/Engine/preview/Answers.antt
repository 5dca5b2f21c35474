use Rattle.std.proofs.Common.{rules, ◌≡◌, length, ◌∙◌}
use Rattle.std.specs.Arc.{arc_value}
use Rattle.rule_model.specs.Tab.{tab}
use Rattle.rule_engine.proofs.Engines.{copy_is_at_work}
use Rattle.rule_engine.proofs.engine.Engine.preview.Goals as goal

pub pressed-done-requires-clause-work : goal.pressed-done-requires-clause-work
pressed-done-requires-clause-work c =
    let here = c.in_ok-workspace.ensures in
    let same : c.deref-2.result.now ≡ arc_value c.self.inside.indexed = search rules in
    let count : c.store_count.result ≡ length (tab (arc_value c.self.inside.indexed)).stores = search rules in
    copy_is_at_work _ _ _ _ _ _ _ _ _ _ _ _ _ _ c.self.invariant same here.cache here.options here.truths here.inserted here.lines
    (here.places ∙ (λ i. (count i, count i)))

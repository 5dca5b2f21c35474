use Rattle.std.proofs.Common.{subst}
use Rattle.std.specs.Prelude.{vec_capacity}
use Rattle.std.specs.Arc.{arc_value}
use Rattle.rule_matching.specs.PlaceMemory.{rooms}
use Rattle.rule_engine.specs.Engine.{IsEngine}
use Rattle.rule_engine.proofs.Engines.{at_work_is_engine}
use Rattle.rule_engine.proofs.engine.Engine.context.Goals as goal

pub returns-clause-engine : goal.returns-clause-engine
returns-clause-engine c =
    subst IsEngine c.self.view_is
    (at_work_is_engine (arc_value c.self.inside.indexed) c.self.inside.workspace.cache c.self.inside.workspace.options c.self.inside.workspace.truths.items
    c.self.inside.workspace.inserted c.self.inside.workspace.chosen.items (vec_capacity c.self.inside.workspace.chosen) (rooms c.self.inside.workspace.places) c.self.invariant)

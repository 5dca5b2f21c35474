use Rattle.std.proofs.Common.{◌≡◌, drop}
use Rattle.std.specs.Prelude.{filter_map}
use Rattle.rule_model.specs.declared.event_state.Catch.{Catch}
use Rattle.rule_model.specs.Act.{put_items}
use Rattle.rule_engine.proofs.outputs.put_context.Given as goal

abbrev pub invariant-loop-found : goal.invariant-loop-found
invariant-loop-found l =
    record l.event { state = put_items (filter_map (λ (catch : Catch). catch.item) (drop l.found-index l.found-items)) l.event.state }
    ≡ record l.fn.event { state = put_items (filter_map (λ (catch : Catch). catch.item) l.found-items) l.fn.event.state }

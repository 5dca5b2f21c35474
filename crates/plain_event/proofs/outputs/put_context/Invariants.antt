use Rattle.std.proofs.Common.{◌≡◌, drop}
use Rattle.std.specs.Prelude.{filter_map}
use Rattle.rule_model.specs.declared.event_state.Catch.{Catch}
use Rattle.rule_model.specs.Act.{put_items, items_caught}
use Rattle.plain_event.proofs.outputs.put_context.Given as goal

abbrev pub invariant-loop-catch : goal.invariant-loop-catch
invariant-loop-catch l = put_items (filter_map (λ (catch : Catch). catch.item) (drop l.catch-index l.caught.catches)) l.state ≡ put_items (items_caught l.caught) l.fn.state

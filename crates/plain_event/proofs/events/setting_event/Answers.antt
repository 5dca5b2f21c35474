use Rattle.plain_event.proofs.Steps.{option_given}
use Rattle.plain_event.proofs.events.setting_event.Goals as goal

pub returns : goal.returns
returns c =
    option_given c.args.indexed.now c.args.state.now c.requires c.args.name.now c.args.value.now _ _ _ _ c.in_ok-after.after
    c.in_ok-event_state.ensures c.option_named.ensures c.in_ok-give.ensures c.no_outcome.ensures c.in_ok-after.ensures

use Rattle.std.proofs.Common.{◌∙◌}
use Rattle.std.specs.Prelude.{option_map}
use Rattle.rule_model.specs.Tab.{tab}
use Rattle.rule_matching.specs.StoreValues.{elements_in}
use Rattle.play_session.specs.Changes.{values_in, values_now}
use Rattle.play_session.proofs.Comparing.{saved_is_value, saved_stays}
use Rattle.play_session.proofs.changes.put_saved_change.Goals as goal

pub returns-else-is_newly_saved-clause-changes : goal.returns-else-is_newly_saved-clause-changes
returns-else-is_newly_saved-clause-changes c =
    saved_stays (values_in c.args.engine.now.tables c.args.before.now) (values_now c.args.engine.now) c.args.store c.args.option c.args.changes.now.items
    (option_map elements_in c.saved_before-was.result) (option_map elements_in c.saved_of.result) c.saved_before-was.ensures
    (c.saved_of.ensures ∙ saved_is_value (tab c.args.engine.now.tables).stores c.args.engine.now.saved c.args.store c.args.option c.requires.number)
    c.if-is_newly_saved.ensures

use Rattle.std.proofs.Common.{refl}
use Rattle.play_session.specs.Changes.{current_at, values_in, values_now}
use Rattle.play_session.proofs.Comparing.{current_stays}
use Rattle.play_session.proofs.changes.put_current_change.Goals as goal

pub returns-else-not-current_stays-clause-changes : goal.returns-else-not-current_stays-clause-changes
returns-else-not-current_stays-clause-changes c =
    current_stays (values_in c.args.engine.now.tables c.args.before.now) (values_now c.args.engine.now) c.args.store c.args.option c.args.changes.now.items
    (current_at (values_in c.args.engine.now.tables c.args.before.now) c.args.option) (current_at (values_now c.args.engine.now) c.args.option) refl refl
    c.if-not-current_stays.ensures

use Rattle.std.proofs.Common.{rules}
use Rattle.std.specs.Prelude.{vec_capacity}
use Rattle.play_session.proofs.Rooms.{session_begins}
use Rattle.play_session.proofs.session.Session.with_engine.Goals as goal

pub invariant_of-result : goal.invariant_of-result
invariant_of-result c =
    session_begins c.args.engine c.new.result c.in_ok-options.options.items (vec_capacity c.in_ok-changes.changes)
    c.requires c.new.ensures c.in_ok-options.ensures.stores (search rules)

use Rattle.std.proofs.Common.{◌≡◌, ◌*◌, ◌≤◌, ◌++◌, drop}
use Rattle.std.specs.Prelude.{vec_len, vec_capacity}
use Rattle.play_session.specs.Changes.{values_in, values_now}
use Rattle.play_session.proofs.OptionStores.{changes_of}
use Rattle.play_session.proofs.changes.put_changes.Given as goal

abbrev pub invariant-loop-option : goal.invariant-loop-option
invariant-loop-option l =
    record {
      changes : l.changes.items ++ changes_of (values_in l.engine.tables l.before) (values_now l.engine) l.option (drop l.option l.options)
          ≡ changes_of (values_in l.engine.tables l.before) (values_now l.engine) 0 l.options;
      few : vec_len l.changes ≤ 2 * l.option;
      room : vec_capacity l.changes ≡ vec_capacity l.initial.changes;
    }

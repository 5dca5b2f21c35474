use Rattle.std.proofs.Common.{◌≡◌, ◌≤◌, ◌++◌, drop}
use Rattle.std.specs.Prelude.{vec_len}
use Rattle.play_session.specs.Changes.{options_from}
use Rattle.play_session.proofs.options.option_stores.Given as goal

abbrev pub invariant-loop-store : goal.invariant-loop-store
invariant-loop-store l =
    record {
      stores : l.stores.items ++ options_from l.store (drop l.store l.numbers) ≡ options_from 0 l.numbers;
      few : vec_len l.stores ≤ l.store;
    }

use Rattle.std.proofs.Common.{◌≡◌, ◌+◌, ◌≤◌, ◌++◌, length, take, drop}
use Rattle.play_session.specs.Changes.{options_from}
use Rattle.curlew_calls.specs.Numbers.{written}
use Rattle.curlew_calls.proofs.numbers.put_options.Given as goal

abbrev pub invariant-loop-store : goal.invariant-loop-store
invariant-loop-store l = record {
  few : l.count ≤ l.store;
  whole : l.count + length (options_from l.store (drop l.store l.numbers)) ≡ length (options_from 0 l.numbers);
  same : take l.count l.room ++ written (options_from l.store (drop l.store l.numbers)) (drop l.count l.room) ≡ written (options_from 0 l.numbers) l.fn.room;
}

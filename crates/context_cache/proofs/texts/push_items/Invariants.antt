use Rattle.std.proofs.Common.{◌≡◌, ◌+◌, ◌++◌, length, drop}
use Rattle.context_cache.proofs.texts.push_items.Given as goal

abbrev pub invariant-loop-other : goal.invariant-loop-other
invariant-loop-other l = record {
  count : length l.items.items ≡ length l.initial.items.items + l.other-index;
  same : l.items.items ++ drop l.other-index l.others ≡ l.initial.items.items ++ l.others;
}

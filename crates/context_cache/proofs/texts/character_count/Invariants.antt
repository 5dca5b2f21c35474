use Rattle.std.proofs.Common.{◌≡◌, ◌≤◌, ◌+◌, length, drop}
use Rattle.kmn_base.specs.Lists.{characters}
use Rattle.context_cache.proofs.texts.character_count.Given as goal

abbrev pub invariant-loop-item : goal.invariant-loop-item
invariant-loop-item l = record {
  few : l.count ≤ l.item-index;
  same : l.count + length (characters (drop l.item-index l.items)) ≡ length (characters l.items);
}

use Rattle.std.proofs.Common.{◌≡◌, ◌++◌, length, drop, map}
use Rattle.kmn_base.specs.declared.items.Item.TheVariants.{Char}
use Rattle.context_cache.proofs.cache.Cache.sync.Given as goal

abbrev pub invariant-loop-c : goal.invariant-loop-c
invariant-loop-c l = record {
  count : length l.self-inside.items.items ≡ l.c-index;
  same : l.self-inside.items.items ++ map Char (drop l.c-index l.c-items) ≡ map Char l.c-items;
}

use Rattle.std.proofs.Common.{◌≡◌, ◌+◌, length, drop, eqb}
use Rattle.std.specs.Cmp.Lexicographic.{pointwise}
use Rattle.std.specs.List.{ends_with}
use Rattle.kmn_base.specs.Lists.{characters}
use Rattle.context_cache.proofs.texts.ends_with.Given as goal

abbrev pub invariant-loop-item : goal.invariant-loop-item
invariant-loop-item l = record {
  count : l.place + length (characters (drop l.item-index l.items)) ≡ length l.text;
  same : pointwise eqb (characters (drop l.item-index l.items)) (drop l.place l.text) ≡ ends_with eqb l.text (characters l.items);
}

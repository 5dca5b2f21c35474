use Rattle.std.proofs.Common.{◌≡◌, ◌+◌, ◌-◌, ◌≤◌, ◌++◌, length, map, take, drop}
use Rattle.kmn_base.specs.declared.items.Item.TheVariants.{Char}
use Rattle.context_cache.proofs.texts.push_characters.Given as goal

abbrev pub invariant-loop-place : goal.invariant-loop-place
invariant-loop-place l = record {
  within : (l.from ≤ l.place) × (l.place ≤ l.from + l.count);
  count : length l.items.items ≡ length l.initial.items.items + (l.place - l.from);
  same : l.items.items ++ map Char (take (l.from + l.count - l.place) (drop l.place (l.older ++ l.newer))) ≡ l.initial.items.items ++ map Char (take l.count (drop l.from (l.older ++ l.newer)));
}

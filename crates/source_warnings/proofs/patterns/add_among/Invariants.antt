use Rattle.std.proofs.Common.{◌≡◌, ◌++◌, flat_map, take}
use Rattle.source_warnings.specs.Patterns.{empty_pattern}
use Rattle.source_warnings.proofs.patterns.add_among.Given as goal

abbrev pub invariant-loop-place : goal.invariant-loop-place
invariant-loop-place l = l.found.items ≡ l.fn.found.items ++ flat_map (empty_pattern l.names) (take l.place-index l.uses)

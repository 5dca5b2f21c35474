use Rattle.std.proofs.Common.{◌≡◌, ◌++◌, flat_map, take}
use Rattle.source_warnings.specs.Repeated.{repeated_element}
use Rattle.source_warnings.proofs.repeated.add_repeated.Given as goal

abbrev pub invariant-loop-pair : goal.invariant-loop-pair
invariant-loop-pair l = l.found.items ≡ l.fn.found.items ++ flat_map (repeated_element l.contents l.names l.stated) (take l.pair-index l.pairs)

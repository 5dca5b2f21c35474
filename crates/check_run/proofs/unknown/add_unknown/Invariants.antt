use Rattle.std.proofs.Common.{◌≡◌, ◌++◌, flat_map, take}
use Rattle.check_run.specs.Inputs.{unknown_entry}
use Rattle.check_run.proofs.unknown.add_unknown.Given as goal

abbrev pub invariant-loop-entry : goal.invariant-loop-entry
invariant-loop-entry l = l.found.items ≡ l.fn.found.items ++ flat_map (unknown_entry l.keyboard) (take l.entry-index l.entries)

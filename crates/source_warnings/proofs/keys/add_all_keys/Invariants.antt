use Rattle.std.proofs.Common.{◌≡◌, ◌++◌, take}
use Rattle.source_warnings.specs.Keys.{all_keys}
use Rattle.source_warnings.proofs.keys.add_all_keys.Given as goal

abbrev pub invariant-loop-group : goal.invariant-loop-group
invariant-loop-group l = l.found.items ≡ l.fn.found.items ++ all_keys l.characters.keys (take l.group-index l.groups)

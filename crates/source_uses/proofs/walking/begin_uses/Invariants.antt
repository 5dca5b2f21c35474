use Rattle.std.proofs.Common.{◌≡◌, take}
use Rattle.source_uses.specs.Uses.{begin_uses}
use Rattle.source_uses.proofs.walking.begin_uses.Given as goal

abbrev pub invariant-loop-start : goal.invariant-loop-start
invariant-loop-start l = l.uses.items ≡ begin_uses (take l.start-index l.begins)

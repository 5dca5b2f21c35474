use Rattle.std.proofs.Common.{◌≡◌, ◌++◌, drop}
use Rattle.import_outline.specs.Outline.{unlayered}
use Rattle.import_outline.proofs.groups.unlayered.Given as goal

abbrev pub invariant-loop-name : goal.invariant-loop-name
invariant-loop-name l = l.names ++ unlayered l.layered (drop l.name-index l.stated) ≡ unlayered l.layered l.stated

use Rattle.std.proofs.Common.{◌≡◌, ◌++◌, drop}
use Rattle.import_outline.specs.Outline.{new_uses}
use Rattle.import_outline.proofs.groups.new_uses.Given as goal

abbrev pub invariant-loop-entry : goal.invariant-loop-entry
invariant-loop-entry l = l.more ++ new_uses (drop l.entry-index l.uses) l.names ≡ new_uses l.uses l.names

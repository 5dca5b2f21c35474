use Rattle.std.proofs.Common.{◌≡◌, drop}
use Rattle.import_outline.specs.Outline.{uses_readonly}
use Rattle.import_outline.proofs.groups.uses_readonly.Given as goal

abbrev pub invariant-loop-entry : goal.invariant-loop-entry
invariant-loop-entry l = uses_readonly l.readonly l.name (drop l.entry-index l.uses) ≡ uses_readonly l.readonly l.name l.uses

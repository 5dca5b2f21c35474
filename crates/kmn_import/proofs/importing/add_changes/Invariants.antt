use Rattle.std.proofs.Common.{◌≡◌, ◌++◌, drop}
use Rattle.kmn_import.specs.Import.{changes_of}
use Rattle.kmn_import.proofs.importing.add_changes.Given as goal

abbrev pub invariant-loop-kind : goal.invariant-loop-kind
invariant-loop-kind l = l.changes ++ changes_of l.line (drop l.kind-index l.kinds) ≡ l.initial.changes ++ changes_of l.line l.kinds

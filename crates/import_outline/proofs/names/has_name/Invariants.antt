use Rattle.std.proofs.Common.{◌≡◌, drop}
use Rattle.import_outline.specs.Names.{has_name}
use Rattle.import_outline.proofs.names.has_name.Given as goal

abbrev pub invariant-loop-known : goal.invariant-loop-known
invariant-loop-known l = has_name (drop l.known-index l.names) l.name ≡ has_name l.names l.name

use Rattle.std.proofs.Common.{◌≡◌, ◌++◌, drop}
use Rattle.kmn_base.specs.Spelling.{unit_bytes}
use Rattle.kmx_writer.proofs.units.put_units.Given as goal

abbrev pub invariant-loop-unit : goal.invariant-loop-unit
invariant-loop-unit l = l.out ++ unit_bytes (drop l.unit-index l.units) ≡ l.fn.out ++ unit_bytes l.units

use Rattle.std.proofs.Common.{◌≡◌, ◌*◌, length, take}
use Rattle.kmn_base.specs.Spelling.{unit_bytes}
use Rattle.item_codec.proofs.units.put_units.Given as goal

abbrev pub invariant-loop-i : goal.invariant-loop-i
invariant-loop-i l = (length l.bytes ≡ 10) × (take (2 * l.i) l.bytes ≡ unit_bytes (take l.i l.units))

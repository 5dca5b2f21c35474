use Rattle.std.proofs.Common.{◌≡◌}
use Rattle.kmn_lines.specs.Lines.{parts_in}
use Rattle.kmn_lines.specs.Walks.{parts_left}
use Rattle.refusal_places.specs.Spots.{parts_spot}
use Rattle.refusal_places.proofs.faulty.faulty_spot.Given as goal

abbrev pub invariant-loop-part : goal.invariant-loop-part
invariant-loop-part l = parts_spot l.source (parts_left l.part-iterator) ≡ parts_spot l.source (parts_in l.source l.fn.logical)

use Rattle.std.proofs.Common.{◌≡◌}
use Rattle.kmn_lines.specs.Lines.{parts_in}
use Rattle.kmn_lines.specs.Walks.{parts_left}
use Rattle.refusal_details.specs.Faulty.{spot_text}
use Rattle.refusal_details.proofs.faulty.spot_text.Given as goal

abbrev pub invariant-loop-part : goal.invariant-loop-part
invariant-loop-part l = spot_text l.source l.spot (parts_left l.part-iterator) ≡ spot_text l.source l.spot (parts_in l.source l.fn.logical)

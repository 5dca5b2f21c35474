use Rattle.std.proofs.Common.{◌≡◌, drop}
use Rattle.std.specs.Prelude.{max}
use Rattle.core_constructs.specs.Widths.{most_units}
use Rattle.core_constructs.proofs.widths.most_units.Given as goal

abbrev pub invariant-loop-element : goal.invariant-loop-element
invariant-loop-element l = max (most_units (drop l.element-index l.elements)) l.most ≡ most_units l.elements

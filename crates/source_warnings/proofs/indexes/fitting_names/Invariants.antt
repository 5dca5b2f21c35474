use Rattle.std.proofs.Common.{◌≡◌, take}
use Rattle.source_warnings.specs.Indexes.{fitting_names}
use Rattle.source_warnings.proofs.indexes.fitting_names.Given as goal

abbrev pub invariant-loop-pair : goal.invariant-loop-pair
invariant-loop-pair l = l.names ≡ fitting_names l.contents (take l.pair-index l.pairs)

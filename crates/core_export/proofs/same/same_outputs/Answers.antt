use Rattle.std.proofs.lemmas.Slice.Eq.{slice_eq-Decides}
use Rattle.core_export.proofs.Equal.{output_equal}
use Rattle.core_export.proofs.same.same_outputs.Goals as goal

pub returns : goal.returns
returns c = slice_eq-Decides output_equal _ _ _ c.eq.ensures

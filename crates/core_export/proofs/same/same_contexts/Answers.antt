use Rattle.std.proofs.lemmas.Slice.Eq.{slice_eq-Decides}
use Rattle.core_export.proofs.Equal.{pattern_equal}
use Rattle.core_export.proofs.same.same_contexts.Goals as goal

pub returns : goal.returns
returns c = slice_eq-Decides pattern_equal _ _ _ c.eq.ensures

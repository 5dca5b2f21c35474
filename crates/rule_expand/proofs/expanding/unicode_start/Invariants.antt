use Rattle.std.proofs.Common.{◌≡◌, drop}
use Rattle.std.specs.Prelude.{find}
use Rattle.rule_model.specs.Src.{is_unicode}
use Rattle.rule_expand.proofs.expanding.unicode_start.Given as goal

abbrev pub invariant-loop-start : goal.invariant-loop-start
invariant-loop-start l = find is_unicode (drop l.start-index l.begins) ≡ find is_unicode l.begins

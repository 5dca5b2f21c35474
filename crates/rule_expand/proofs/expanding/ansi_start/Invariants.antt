use Rattle.std.proofs.Common.{◌≡◌, drop}
use Rattle.std.specs.Prelude.{find}
use Rattle.compile_laws.specs.Compiles.{is_ansi}
use Rattle.rule_expand.proofs.expanding.ansi_start.Given as goal

abbrev pub invariant-loop-start : goal.invariant-loop-start
invariant-loop-start l = find is_ansi (drop l.start-index l.begins) ≡ find is_ansi l.begins

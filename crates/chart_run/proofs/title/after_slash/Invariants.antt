use Rattle.std.proofs.Common.{◌≡◌, [], drop}
use Rattle.chart_run.specs.Drawings.{name_from}
use Rattle.chart_run.proofs.title.after_slash.Given as goal

abbrev pub invariant-loop-c : goal.invariant-loop-c
invariant-loop-c l = name_from l.name (drop l.c-index l.path) ≡ name_from [] l.path

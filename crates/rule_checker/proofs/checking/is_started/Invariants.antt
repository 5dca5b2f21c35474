use Rattle.std.proofs.Common.{◌≡◌, drop}
use Rattle.std.specs.List.{list_any}
use Rattle.rule_model.specs.Src.{is_unicode}
use Rattle.rule_checker.proofs.checking.is_started.Given as goal

abbrev pub invariant-loop-start : goal.invariant-loop-start
invariant-loop-start l = list_any is_unicode (drop l.start-index l.begins) ≡ list_any is_unicode l.begins

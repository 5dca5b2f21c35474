use Rattle.std.proofs.Common.{◌≡◌, drop}
use Rattle.std.specs.List.{list_any}
use Rattle.chart_board.specs.States.{rule_asks_for}
use Rattle.chart_board.proofs.states.rules_ask_for.Given as goal

abbrev pub invariant-loop-rule : goal.invariant-loop-rule
invariant-loop-rule l = list_any (rule_asks_for l.mods) (drop l.rule-index l.rules) ≡ list_any (rule_asks_for l.mods) l.rules

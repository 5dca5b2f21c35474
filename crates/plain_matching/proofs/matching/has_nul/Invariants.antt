use Rattle.std.proofs.Common.{◌≡◌, [], drop, map}
use Rattle.std.specs.List.{list_any}
use Rattle.rule_model.specs.Hold.{is_at_start}
use Rattle.rule_model.specs.Tab.{tab_pattern}
use Rattle.plain_matching.proofs.matching.has_nul.Given as goal

abbrev pub invariant-loop-pattern : goal.invariant-loop-pattern
invariant-loop-pattern l =
    list_any is_at_start (map (tab_pattern []) (drop l.pattern-index l.context)) ≡ list_any is_at_start (map (tab_pattern []) l.context)

use Rattle.std.proofs.Common.{◌≡◌, drop, map}
use Rattle.std.specs.List.{list_all}
use Rattle.rule_model.specs.Hold.{is_true}
use Rattle.rule_model.specs.Act.{content_now}
use Rattle.rule_model.specs.Tab.{tab, tab_pattern}
use Rattle.plain_matching.proofs.matching.conditions_hold.Given as goal

abbrev pub invariant-loop-pattern : goal.invariant-loop-pattern
invariant-loop-pattern l = list_all (is_true (content_now (tab l.indexed) l.state)) (map (tab_pattern l.indexed.stores) (drop l.pattern-index l.context))
    ≡ list_all (is_true (content_now (tab l.indexed) l.state)) (map (tab_pattern l.indexed.stores) l.context)

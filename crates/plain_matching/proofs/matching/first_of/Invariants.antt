use Rattle.std.proofs.Common.{◌≡◌, drop, map}
use Rattle.rule_model.specs.Choose.{first}
use Rattle.rule_model.specs.Hold.{holds}
use Rattle.rule_model.specs.Act.{content_now}
use Rattle.rule_model.specs.Tab.{tab, tab_rule}
use Rattle.plain_matching.proofs.matching.first_of.Given as goal

abbrev pub invariant-loop-rule : goal.invariant-loop-rule
invariant-loop-rule l = first (holds (content_now (tab l.indexed) l.state) l.state.left l.press) (map (tab_rule l.indexed.stores l.using_keys) (drop l.rule-index l.rules))
    ≡ first (holds (content_now (tab l.indexed) l.state) l.state.left l.press) (map (tab_rule l.indexed.stores l.using_keys) l.rules)

use Rattle.std.proofs.Common.{◌≡◌, ◌++◌, drop}
use Rattle.rule_shadow.specs.Near.{miss_by, near_rules}
use Rattle.rule_shadow.proofs.near.near_rules.Given as goal

abbrev pub invariant-loop-n : goal.invariant-loop-n
invariant-loop-n l =
    l.near.items ++ near_rules (miss_by l.subject.tables.now l.subject.group.now.using_keys l.places l.subject.rule.now) l.n (drop l.n l.rules)
    ≡ near_rules (miss_by l.subject.tables.now l.subject.group.now.using_keys l.places l.subject.rule.now) 0 l.rules

use Rattle.std.proofs.Common.{◌≡◌, drop}
use Rattle.std.specs.List.{position_from}
use Rattle.rule_shadow.specs.Covers.{covers_rule}
use Rattle.rule_shadow.proofs.finding.first_covering.Given as goal

abbrev pub invariant-loop-n : goal.invariant-loop-n
invariant-loop-n l = position_from (λ q. covers_rule l.subject.tables.now l.subject.group.now.using_keys l.places q l.subject.rule.now) l.n (drop l.n l.rules) ≡ position_from (λ q. covers_rule l.subject.tables.now l.subject.group.now.using_keys l.places q l.subject.rule.now) 0 l.rules

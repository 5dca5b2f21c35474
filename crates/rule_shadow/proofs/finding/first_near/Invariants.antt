use Rattle.std.proofs.Common.{◌≡◌, drop, take}
use Rattle.std.specs.Prelude.{◌&&◌, slice_get}
use Rattle.rule_shadow.specs.Covers.{covers_if_any}
use Rattle.rule_shadow.specs.Near.{is_at_most, first_near}
use Rattle.rule_shadow.proofs.finding.first_near.Given as goal

abbrev pub invariant-loop-one : goal.invariant-loop-one
invariant-loop-one l =
    first_near (λ n. is_at_most l.place n.miss && covers_if_any l.search.subject.now.tables.now l.search.subject.now.group.now.using_keys l.places l.search.subject.now.rule.now (slice_get (take l.search.subject.now.number l.search.subject.now.group.now.rules) n.rule)) (drop l.one-index l.search.near.now)
    ≡ first_near (λ n. is_at_most l.place n.miss && covers_if_any l.search.subject.now.tables.now l.search.subject.now.group.now.using_keys l.places l.search.subject.now.rule.now (slice_get (take l.search.subject.now.number l.search.subject.now.group.now.rules) n.rule)) l.search.near.now

use Rattle.std.proofs.Common.{◌≡◌, [], drop}
use Rattle.std.specs.Prelude.{filter_map}
use Rattle.rule_model.specs.Match.{item_of}
use Rattle.rule_shadow.specs.Finding.{least_onto}
use Rattle.rule_shadow.proofs.finding.least_each.Given as goal

abbrev pub invariant-loop-element : goal.invariant-loop-element
invariant-loop-element l =
    least_onto l.search.subject.now.tables.now l.search.subject.now.group.now l.search.subject.now.number l.search.subject.now.rule.now l.place (filter_map item_of (drop l.element-index l.elements)) l.rules.items
    ≡ least_onto l.search.subject.now.tables.now l.search.subject.now.group.now l.search.subject.now.number l.search.subject.now.rule.now l.place (filter_map item_of l.elements) []

use Rattle.std.proofs.Common.{◌≡◌, ◌≤◌, length, drop}
use Rattle.std.specs.Prelude.{filter_map}
use Rattle.rule_model.specs.Match.{item_of}
use Rattle.rule_shadow.specs.Covers.{covers_list}
use Rattle.rule_shadow.proofs.certs.+certs.Given as goal

abbrev pub invariant-covers_parts-loop-element : goal.invariant-covers_parts-loop-element
invariant-covers_parts-loop-element l =
    (covers_list l.subject.tables.now l.subject.group.now l.subject.number l.subject.rule.now l.narrowing l.place (filter_map item_of (drop l.element-index l.elements)) (drop l.next l.parts)
    ≡ covers_list l.subject.tables.now l.subject.group.now l.subject.number l.subject.rule.now l.narrowing l.place (filter_map item_of l.elements) l.parts)
    × (l.next ≤ length l.parts)

use Rattle.std.proofs.Common.{◌≡◌, ◌++◌, drop}
use Rattle.rule_expand.specs.Pieces.{template_records}
use Rattle.rule_expand.proofs.records.RecordMaker.add_placed.Given as goal

abbrev pub invariant-loop-place : goal.invariant-loop-place
invariant-loop-place l =
    l.records.items ++ template_records l.self.numbers.now l.self.template l.place (drop l.place l.elements)
    ≡ l.initial.records.items ++ template_records l.self.numbers.now l.self.template 0 l.elements

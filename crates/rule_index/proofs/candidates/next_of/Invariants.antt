use Rattle.std.proofs.Common.{◌≡◌, map}
use Rattle.rule_index.specs.Walk.{CursorsAreValid}
use Rattle.rule_index.proofs.Walk.{class_of_head, IsFirst}
use Rattle.rule_index.proofs.candidates.next_of.Given as goal

abbrev pub invariant-loop-k : goal.invariant-loop-k
invariant-loop-k l = record {
  wanted : map class_of_head l.heads ≡ map class_of_head l.fn.heads;
  stand : CursorsAreValid l.rows l.from l.fn.heads → CursorsAreValid l.rows l.from l.heads;
  first : IsFirst l.rows l.fn.heads l.from l.k l.least l.limit l.first;
}

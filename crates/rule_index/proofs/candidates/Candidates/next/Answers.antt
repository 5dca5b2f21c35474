use Rattle.std.proofs.Common.{◌+◌, Some, length, map, sym, subst, arith}
use Rattle.std.proofs.lemmas.Grind.{common_steps}
use Rattle.rule_index.specs.Next.{IsNext}
use Rattle.rule_index.specs.Rows.{IsIndexOf}
use Rattle.rule_index.specs.Walk.{CandidatesValue, RunIsValid}
use Rattle.rule_index.proofs.Walk.{class_of_head, heads_behind, led_is_next}
use Rattle.rule_index.proofs.candidates.Candidates.next.Goals as goal

pub returns-then-number-self-clause-next : goal.returns-then-number-self-clause-next
returns-then-number-self-clause-next c = λ classes.
    subst (λ (walk : CandidatesValue). IsIndexOf classes walk.rows → IsNext walk.wanted (length walk.wanted) classes walk.from (Some c.number-number.result)) c.self.view_is
    (λ index. led_is_next c.self.inside.rows.now (map class_of_head c.self.inside.heads) classes c.self.inside.from c.number-number.result c.self.inside.lead index
    c.self.invariant.2 (sym c.number-number.ensures.value) c.if-self-number.true c.if-number-self.true)

pub invariant_of-self-2 : goal.invariant_of-self-2
invariant_of-self-2 c =
    let wanted = map class_of_head c.self.inside.heads in (
      omega (arith, c.in_ok-number.ensures.small),
      heads_behind c.self.inside.rows.now wanted c.self.inside.from _ c.in_ok-number.number c.next_of.new.heads (c.next_of.ensures.stand c.self.invariant.1)
          (λ classes index. c.in_ok-number.ensures.next classes index c.self.invariant.1),
      subst (λ wanted. RunIsValid c.self.inside.rows.now wanted (c.in_ok-number.number + 1) c.next_of.new.lead) (sym c.next_of.ensures.wanted)
          (c.in_ok-number.ensures.lead c.self.invariant.1 c.self.invariant.2),
    )

pub invariant_of-self-inside : goal.invariant_of-self-inside
invariant_of-self-inside c = grind (arith, common_steps)

pub returns-then-number-self-clause-rest : goal.returns-then-number-self-clause-rest
returns-then-number-self-clause-rest c = grind (arith, common_steps)

pub invariant_of-self-in_err-number : goal.invariant_of-self-in_err-number
invariant_of-self-in_err-number c = grind (arith, common_steps)

pub returns-clause-next : goal.returns-clause-next
returns-clause-next c = grind (arith, common_steps)

pub returns-clause-rest : goal.returns-clause-rest
returns-clause-rest c = grind (arith, common_steps)

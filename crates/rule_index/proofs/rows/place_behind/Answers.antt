use Rattle.std.proofs.Common.{sym, arith}
use Rattle.std.proofs.lemmas.Grind.{common_steps}
use Rattle.rule_index.proofs.Walk.{starts_at_row, starts_at_end}
use Rattle.rule_index.proofs.rows.place_behind.Goals as goal

pub returns-then-start-rank : goal.returns-then-start-rank
returns-then-start-rank c = λ sorted before.
    starts_at_row c.args.start c.args.passed c.loop-row.place c.args.rows.now c.in-Some.row.now sorted before c.loop-row.invariant.less (λ d. sym (c.in-Some.ensures.lookup.3.1 d))
    (omega (arith, c.rank.ensures, c.if-start-rank.true))

pub returns-in_default : goal.returns-in_default
returns-in_default c = λ sorted before.
    starts_at_end c.args.start c.args.passed c.loop-row.place c.args.rows.now before c.loop-row.invariant.less c.in_default.ensures.lookup.3

pub loop-row-preserved : goal.loop-row-preserved
loop-row-preserved c = grind (arith, common_steps)

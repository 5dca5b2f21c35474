use Rattle.std.proofs.Common.{ℕ, ◌+◌, List, arith}
use Rattle.file_conversions.specs.NulWords.{nuls_first}
use Rattle.file_conversions.proofs.NulWords.{walked_there, past_nul, past_condition, ends_there, after_all}
use Rattle.file_conversions.proofs.nul_words.move_nuls.Goals as goal
use Rattle.file_conversions.proofs.nul_words.move_nuls.Goals.{then-is_nul_at, else-is_nul_at+then-is_condition_at}

pub returns-else-is_condition_at : goal.returns-else-is_condition_at
returns-else-is_condition_at c =
    ends_there c.args.start c.args.count (nuls_first c.args.count c.args.start 0 c.args.out.now) c.loop-item._item c.loop-item.place c.loop-item.size c.loop-item.out
    c.is_nul_at.result c.is_condition_at.result c.loop-item-test.true c.loop-item.invariant
    c.is_nul_at.ensures.nul c.if-is_nul_at.false c.is_condition_at.ensures c.if-is_condition_at.false

pub loop-item-preserved : goal.loop-item-preserved
loop-item-preserved c =
    let start : ℕ = c.args.start in
    let count : ℕ = c.args.count in
    let answer : List ℕ = nuls_first count start 0 c.args.out.now in
    let i : ℕ = c.loop-item._item in
    let place : ℕ = c.loop-item.place in
    let size : ℕ = c.loop-item.size in
    let bytes : List ℕ = c.loop-item.out in
    elim c.if-is_nul_at.branch [
      | then-is_nul_at w ↦ walked_there start count answer (i + 1) (place + 4) size _ _ w.move_word.new.out _ w.place-is w.size-is w.out-is
          (past_nul start count answer i place size bytes w.move_word.new.out c.is_nul_at.result c.loop-item-test.true c.loop-item.invariant
          c.is_nul_at.ensures.nul w.if-is_nul_at.true w.move_word.ensures)
      | else-is_nul_at+then-is_condition_at w ↦ walked_there start count answer (i + 1) place (size + 10) _ _ bytes _ w.place-is w.size-is w.out-is
          (past_condition start count answer i place size bytes c.is_nul_at.result w.is_condition_at.result c.loop-item-test.true c.loop-item.invariant
          c.is_nul_at.ensures.nul w.if-is_nul_at.false w.is_condition_at.ensures w.if-is_condition_at.true)
    ]

pub returns : goal.returns
returns c =
    after_all c.args.count c.loop-item._item c.loop-item.place c.loop-item.size c.loop-item.out (nuls_first c.args.count c.args.start 0 c.args.out.now)
    (omega (arith, c.loop-item-test.false)) c.loop-item.invariant.0

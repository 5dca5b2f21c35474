use Rattle.std.proofs.Common.{◌∙◌, arith}
use Rattle.rule_checker.proofs.JoinedCodes.{next_mark, all_joined}
use Rattle.rule_checker.proofs.key_codes.KeyCodes.join.Goals as goal

pub loop-code-preserved : goal.loop-code-preserved
loop-code-preserved c =
    next_mark c.loop-code.code c.loop-code.mark-items c.args.others.now.marks c.either.result (omega arith) (omega arith) c.either.ensures
    ∙ c.loop-code.invariant

pub returns : goal.returns
returns c =
    all_joined c.loop-code.code c.loop-code.mark-items c.args.self.now c.args.others.now (omega arith) c.loop-code.invariant

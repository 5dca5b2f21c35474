use Rattle.std.proofs.Common.{◌≡◌, ◌+◌, None, arith}
use Rattle.virtual_keys.specs.Dictionary.{name_in}
use Rattle.chart_board.proofs.OwnKeys.{own_ended}
use Rattle.chart_board.proofs.board.put_own.Goals as goal

pub returns-in_default : goal.returns-in_default
returns-in_default c =
    let none : name_in c.args.names.now (256 + c.loop-number.number) ≡ None = grind arith in
    own_ended c.loop-number.keys _ c.args.names.now c.loop-number.number none c.loop-number.invariant

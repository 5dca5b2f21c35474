use Rattle.std.proofs.Common.{rules}
use Rattle.item_codec.proofs.Operands.{sentinel_fault_unit}
use Rattle.item_codec.proofs.codes.behind_sentinel.Goals as goal

pub returns : goal.returns
returns c = search (rules, sentinel_fault_unit)

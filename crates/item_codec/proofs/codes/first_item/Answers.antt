use Rattle.std.proofs.Common.{rules}
use Rattle.item_codec.proofs.Operands.{fault_at_unit}
use Rattle.item_codec.proofs.codes.first_item.Goals as goal

pub returns-in-Some : goal.returns-in-Some
returns-in-Some c = search (rules, fault_at_unit)

use Rattle.kmx_decompiler.proofs.CompiledOrder.{compiled_is_in_order}
use Rattle.kmx_decompiler.proofs.laws.compiled_is_in_order.Goals as goal

pub returns : goal.returns
returns c = compiled_is_in_order

use Rattle.std.proofs.Common.{◌≡◌, drop}
use Rattle.decompile_text.specs.OneByOne.{with_stores}
use Rattle.decompile_text.proofs.lines.put_stores.Given as goal

abbrev pub invariant-loop-number : goal.invariant-loop-number
invariant-loop-number l = with_stores l.names l.number l.page (drop l.number l.stores) ≡ with_stores l.names 0 l.initial.page l.stores

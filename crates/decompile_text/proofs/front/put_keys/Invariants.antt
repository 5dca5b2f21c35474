use Rattle.std.proofs.Common.{◌≡◌, drop}
use Rattle.decompile_text.specs.OneByOne.{with_keys}
use Rattle.decompile_text.proofs.front.put_keys.Given as goal

abbrev pub invariant-loop-key : goal.invariant-loop-key
invariant-loop-key l = with_keys l.page (drop l.key-index l.keys) ≡ with_keys l.initial.page l.keys

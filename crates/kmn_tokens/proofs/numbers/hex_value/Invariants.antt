use Rattle.std.proofs.Common.{◌≡◌, ◌≤◌, drop}
use Rattle.kmn_lines.specs.Tokens.{hex_value}
use Rattle.kmn_tokens.proofs.numbers.hex_value.Given as goal

abbrev pub invariant-loop-digit : goal.invariant-loop-digit
invariant-loop-digit l = (l.value ≤ 0x11_0000) × (hex_value l.value (drop l.digit-index l.digits) ≡ hex_value 0 l.digits)

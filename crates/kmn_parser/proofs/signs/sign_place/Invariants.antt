use Rattle.std.proofs.Common.{◌≡◌, ◌+◌, drop}
use Rattle.std.specs.List.{position_or_len}
use Rattle.kmn_parser.specs.Line.{is_sign}
use Rattle.kmn_parser.proofs.signs.sign_place.Given as goal

abbrev pub invariant-loop-token : goal.invariant-loop-token
invariant-loop-token l = record {
  place : l.place ≡ l.token-index;
  rest : l.place + position_or_len (λ token. is_sign l.sign token.kind) (drop l.token-index l.tokens) ≡ position_or_len (λ token. is_sign l.sign token.kind) l.tokens;
}

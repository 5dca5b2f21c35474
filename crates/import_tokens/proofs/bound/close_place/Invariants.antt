use Rattle.std.proofs.Common.{◌≡◌, ◌+◌, drop}
use Rattle.std.specs.List.{position_or_len}
use Rattle.kmn_items.specs.TokenTexts.{is_bracket_close}
use Rattle.import_tokens.proofs.bound.close_place.Given as goal

abbrev pub invariant-loop-token : goal.invariant-loop-token
invariant-loop-token l = record {
  place : l.place ≡ l.token-index;
  rest : l.place + position_or_len (λ token. is_bracket_close token.kind) (drop l.token-index l.tokens) ≡ position_or_len (λ token. is_bracket_close token.kind) l.tokens;
}

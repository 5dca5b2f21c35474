use Rattle.std.proofs.Common.{◌≡◌, ◌+◌, drop}
use Rattle.kmn_parser.specs.Line.{place_of}
use Rattle.import_outline.proofs.line_kinds.place_of.Given as goal

abbrev pub invariant-loop-token : goal.invariant-loop-token
invariant-loop-token l = record {
  place : l.place ≡ l.token-index;
  rest : l.place + place_of l.sign (drop l.token-index l.tokens) ≡ place_of l.sign l.tokens;
}

use Rattle.std.proofs.Common.{◌≡◌, [], drop}
use Rattle.refusal_places.specs.Names.{named_token}
use Rattle.refusal_places.proofs.names.named_token.Given as goal

abbrev pub invariant-loop-token : goal.invariant-loop-token
invariant-loop-token l =
    named_token l.source l.code l.name l.previous l.word (drop l.token-index l.tokens) ≡ named_token l.source l.code l.name [] [] l.tokens

use Rattle.std.proofs.Common.{◌≡◌, ◌++◌, drop}
use Rattle.kmn_items.specs.TokenTexts.{with_texts}
use Rattle.import_tokens.proofs.scan.owned_tokens.Given as goal

abbrev pub invariant-loop-token : goal.invariant-loop-token
invariant-loop-token l = l.owned ++ with_texts l.text (drop l.token-index l.tokens) ≡ with_texts l.text l.tokens

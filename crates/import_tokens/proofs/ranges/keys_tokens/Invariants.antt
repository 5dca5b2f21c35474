use Rattle.std.proofs.Common.{◌≡◌, ◌-◌, ◌++◌, List}
use Rattle.std.specs.Prelude.{option_map}
use Rattle.kmn_items.specs.TokenTexts.{LineToken}
use Rattle.import_tokens.specs.Ranges.{counted, between, keys_tokens}
use Rattle.import_tokens.proofs.ranges.keys_tokens.Given as goal

abbrev pub invariant-loop-code : goal.invariant-loop-code
invariant-loop-code l =
    option_map (λ (more : List LineToken). l.tokens ++ more) (keys_tokens l.modifiers (counted l.code (l.fn.last - l.code)))
    ≡ keys_tokens l.modifiers (between l.fn.first l.fn.last)

use Rattle.std.proofs.Common.{◌≡◌, ◌++◌, [], drop}
use Rattle.import_tokens.specs.Ranges.{spelled}
use Rattle.import_tokens.proofs.spelling.spelled.Given as goal

abbrev pub invariant-loop-character : goal.invariant-loop-character
invariant-loop-character l = l.tokens ++ spelled l.run (drop l.character-index l.characters) ≡ spelled [] l.characters

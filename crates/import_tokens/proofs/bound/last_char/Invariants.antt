use Rattle.std.proofs.Common.{◌≡◌, drop}
use Rattle.std.specs.Prelude.{fold}
use Rattle.import_tokens.specs.declared.bound.Bound.TheVariants.{Character}
use Rattle.import_tokens.specs.Bounds.{last_char}
use Rattle.import_tokens.proofs.bound.last_char.Given as goal

abbrev pub invariant-loop-character : goal.invariant-loop-character
invariant-loop-character l = fold (λ bound c. Character c) l.bound (drop l.character-index l.characters) ≡ last_char l.characters

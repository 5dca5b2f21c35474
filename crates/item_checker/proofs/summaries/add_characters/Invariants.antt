use Rattle.std.proofs.Common.{◌≡◌, drop}
use Rattle.item_checker.specs.Summaries.{with_characters}
use Rattle.item_checker.proofs.summaries.add_characters.Given as goal

abbrev pub invariant-loop-character : goal.invariant-loop-character
invariant-loop-character l =
    with_characters l.front (drop l.character-index l.characters) ≡ with_characters l.initial.front l.characters

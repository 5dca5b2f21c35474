use Rattle.std.proofs.Common.{◌≡◌}
use Rattle.source_warnings.specs.Keys.{characters_below}
use Rattle.source_warnings.proofs.keys.pressed_characters.Given as goal

abbrev pub invariant-loop-code : goal.invariant-loop-code
invariant-loop-code l = l.characters.keys ≡ characters_below l.code

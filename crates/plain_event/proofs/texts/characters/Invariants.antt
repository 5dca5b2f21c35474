use Rattle.std.proofs.Common.{◌≡◌, ◌++◌, drop}
use Rattle.kmn_base.specs.Lists.{characters}
use Rattle.plain_event.proofs.texts.characters.Given as goal

abbrev pub invariant-loop-item : goal.invariant-loop-item
invariant-loop-item l = l.text.items ++ characters (drop l.item-index l.items) ≡ characters l.items

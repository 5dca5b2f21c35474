use Rattle.std.proofs.Common.{◌≡◌, ◌++◌, take}
use Rattle.source_warnings.specs.SameKeys.{free_characters}
use Rattle.source_warnings.proofs.same_keys.add_free_characters.Given as goal

abbrev pub invariant-loop-rule : goal.invariant-loop-rule
invariant-loop-rule l = l.characters ≡ l.fn.characters ++ free_characters (take l.rule-index l.rules)

use Rattle.std.proofs.Common.{◌≡◌, ◌++◌, drop}
use Rattle.std.specs.Prelude.{flat_map}
use Rattle.check_texts.specs.Details.{near_text}
use Rattle.check_texts.proofs.details.put_near.Given as goal

abbrev pub invariant-loop-name : goal.invariant-loop-name
invariant-loop-name l = l.text ++ flat_map near_text (drop l.name-index l.names) ≡ l.fn.text ++ flat_map near_text l.names

use Rattle.std.proofs.Common.{◌≡◌, drop}
use Rattle.rule_model.specs.Plain.{option_named}
use Rattle.indexed_tables.proofs.indexed_tables.option_named.Given as goal

abbrev pub invariant-loop-n : goal.invariant-loop-n
invariant-loop-n l = option_named l.name (drop l.n l.numbers) (drop l.n l.stores) ≡ option_named l.name l.numbers l.stores

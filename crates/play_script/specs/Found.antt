-- What is found in a script, in reading order.
use Rattle.kmn_base.specs.declared.refusals.Refusal.{Refusal}
use Rattle.rule_model.specs.declared.script.Entry.{Entry}

-- an entry that is read, or a rule that is broken
pub data Found : Type 0 where
  Reads : Entry → Found
  Breaks : Refusal → Found

use Rattle.rule_index.proofs.Skipping.{class_is_of_the_record}
use Rattle.rule_index.proofs.laws.class_is_of_the_record.Goals as goal

pub returns : goal.returns
returns c = class_is_of_the_record

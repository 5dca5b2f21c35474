use Rattle.rule_index.proofs.Skipping.{first_is_candidate}
use Rattle.rule_index.proofs.laws.first_is_candidate.Goals as goal

pub returns : goal.returns
returns c = first_is_candidate

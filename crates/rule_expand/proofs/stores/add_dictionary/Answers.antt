use Rattle.std.proofs.Common.{arith}
use Rattle.std.proofs.lemmas.Grind.{common_steps}
use Rattle.rule_expand.proofs.StoreLists.{dictionary_text, dictionary_none}
use Rattle.rule_expand.proofs.stores.add_dictionary.Goals as goal

pub returns : goal.returns
returns c = grind (arith, dictionary_text, dictionary_none)

pub returns-in_default : goal.returns-in_default
returns-in_default c = grind (arith, common_steps)

use Rattle.kmx_decompiler.proofs.UnrefusedRules.{spelled_rules_stand}
use Rattle.kmx_decompiler.proofs.laws.spelled_rules_stand.Goals as goal

pub returns : goal.returns
returns c = spelled_rules_stand

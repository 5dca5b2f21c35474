use Rattle.core_meaning.proofs.ContextsAlike.{contexts_match_alike}
use Rattle.core_meaning.proofs.laws.contexts_hold_alike.Goals as goal

-- src/laws.rt:29:1
pub returns-clause-matches : goal.returns-clause-matches
returns-clause-matches c = contexts_match_alike

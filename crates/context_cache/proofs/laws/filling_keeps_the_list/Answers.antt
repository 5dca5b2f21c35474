use Rattle.context_cache.proofs.Cached.{filling_keeps_the_list}
use Rattle.context_cache.proofs.laws.filling_keeps_the_list.Goals as goal

pub returns : goal.returns
returns c = filling_keeps_the_list

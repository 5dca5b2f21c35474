use Rattle.context_cache.proofs.Cached.{takes_are_of_the_list}
use Rattle.context_cache.proofs.laws.takes_are_of_the_list.Goals as goal

pub returns : goal.returns
returns c = takes_are_of_the_list

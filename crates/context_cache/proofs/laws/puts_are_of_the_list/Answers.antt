use Rattle.context_cache.proofs.Cached.{puts_are_of_the_list}
use Rattle.context_cache.proofs.laws.puts_are_of_the_list.Goals as goal

pub returns : goal.returns
returns c = puts_are_of_the_list

use Rattle.rule_index.specs.Holdings.{AreGathered}
use Rattle.rule_index.proofs.holdings.gathered.Given as goal

abbrev pub invariant-loop-store : goal.invariant-loop-store
invariant-loop-store l = AreGathered l.stores l.rows.items l.store

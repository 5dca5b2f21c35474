use Rattle.std.proofs.Common.{◌≡◌, ◌+◌, ◌-◌, length, drop}
use Rattle.rule_model.specs.KeyEvent.{common_prefix}
use Rattle.rule_model.proofs.texts.common_prefix.Given as goal

abbrev pub invariant-loop-count : goal.invariant-loop-count
invariant-loop-count l = l.count + common_prefix (drop l.count l.old) (drop l.count l.new) ≡ common_prefix l.old l.new

abbrev pub decreases-loop-count : goal.decreases-loop-count
decreases-loop-count l = length l.old - l.count

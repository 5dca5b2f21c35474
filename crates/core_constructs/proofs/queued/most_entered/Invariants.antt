use Rattle.std.proofs.Common.{◌≡◌, drop, map}
use Rattle.std.specs.Prelude.{max}
use Rattle.std.specs.List.{fold}
use Rattle.core_constructs.specs.Queued.{entered_effects}
use Rattle.core_constructs.proofs.queued.most_entered.Given as goal

abbrev pub invariant-loop-item : goal.invariant-loop-item
invariant-loop-item l = fold max l.most (map (entered_effects l.used) (drop l.item-index l.items)) ≡ fold max l.least (map (entered_effects l.used) l.items)

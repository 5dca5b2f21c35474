use Rattle.std.proofs.Common.{◌≡◌, drop, map, flat_map}
use Rattle.std.specs.Prelude.{max}
use Rattle.std.specs.List.{fold}
use Rattle.core_constructs.specs.Marks.{rule_items}
use Rattle.core_constructs.specs.Queued.{entered_effects}
use Rattle.core_constructs.proofs.queued.entered_in_rules.Given as goal

abbrev pub invariant-loop-rule : goal.invariant-loop-rule
invariant-loop-rule l = fold max l.most (map (entered_effects l.used) (flat_map rule_items (drop l.rule-index l.rules))) ≡ fold max 0 (map (entered_effects l.used) (flat_map rule_items l.rules))

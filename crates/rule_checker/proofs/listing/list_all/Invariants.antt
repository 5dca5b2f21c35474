use Rattle.std.proofs.Common.{◌≡◌, drop}
use Rattle.std.specs.Prelude.{flat_map}
use Rattle.rule_model.specs.declared.program.GroupDef.{GroupDef}
use Rattle.rule_checker.specs.Limits.{in_line_order}
use Rattle.rule_checker.specs.Listing.{listed}
use Rattle.rule_checker.proofs.listing.list_all.Given as goal

abbrev pub invariant-loop-group : goal.invariant-loop-group
invariant-loop-group l =
    listed l.shared l.counted l.listing (in_line_order l.waiting (flat_map (λ (group : GroupDef). group.rules) (drop l.group-index l.groups)))
    ≡ listed l.shared l.counted l.initial.listing (in_line_order l.initial.waiting (flat_map (λ (group : GroupDef). group.rules) l.groups))

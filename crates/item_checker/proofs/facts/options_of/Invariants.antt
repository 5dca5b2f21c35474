use Rattle.std.proofs.Common.{◌≡◌, ◌++◌, drop}
use Rattle.std.specs.Prelude.{flat_map}
use Rattle.rule_model.specs.declared.program.GroupDef.{GroupDef}
use Rattle.store_table.specs.Known.{rule_options}
use Rattle.item_checker.proofs.facts.options_of.Given as goal

abbrev pub invariant-loop-group : goal.invariant-loop-group
invariant-loop-group l =
    l.options ++ flat_map rule_options (flat_map (λ (group : GroupDef). group.rules) (drop l.group-index l.groups))
    ≡ flat_map rule_options (flat_map (λ (group : GroupDef). group.rules) l.groups)

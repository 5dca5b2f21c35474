use Rattle.std.proofs.Common.{◌≡◌, ◌++◌, drop}
use Rattle.std.specs.Prelude.{flat_map}
use Rattle.store_table.specs.Known.{option_named}
use Rattle.item_checker.proofs.facts.add_options.Given as goal

abbrev pub invariant-loop-item : goal.invariant-loop-item
invariant-loop-item l =
    l.options ++ flat_map option_named (drop l.item-index l.items) ≡ l.initial.options ++ flat_map option_named l.items

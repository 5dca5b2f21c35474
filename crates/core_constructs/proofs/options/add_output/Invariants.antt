use Rattle.std.proofs.Common.{◌≡◌, drop, flat_map}
use Rattle.std.specs.List.{fold}
use Rattle.std.specs.Ordering.{nat_cmp}
use Rattle.std.specs.BTreeSet.{insert_key}
use Rattle.rule_model.specs.Tab.{output_options}
use Rattle.core_constructs.proofs.options.add_output.Given as goal

abbrev pub invariant-loop-item : goal.invariant-loop-item
invariant-loop-item l = fold (insert_key nat_cmp) l.options (flat_map output_options (drop l.item-index l.outputs)) ≡ fold (insert_key nat_cmp) l.fn.options (flat_map output_options l.outputs)

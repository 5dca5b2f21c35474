use Rattle.std.proofs.Common.{◌≡◌, drop, flat_map}
use Rattle.std.specs.List.{fold}
use Rattle.std.specs.Ordering.{nat_cmp}
use Rattle.std.specs.BTreeSet.{insert_key}
use Rattle.core_export.specs.Readable.{changed}
use Rattle.core_export.proofs.nameless.add_output.Given as goal

abbrev pub invariant-loop-output : goal.invariant-loop-output
invariant-loop-output l =
    fold (insert_key nat_cmp) l.stores (flat_map (changed l.way) (drop l.output-index l.outputs))
    ≡ fold (insert_key nat_cmp) l.fn.stores (flat_map (changed l.way) l.outputs)

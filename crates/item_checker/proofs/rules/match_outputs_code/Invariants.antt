use Rattle.std.proofs.Common.{◌≡◌, drop}
use Rattle.store_table.specs.First.{first_code}
use Rattle.item_checker.specs.Items.{match_output_code}
use Rattle.item_checker.proofs.rules.match_outputs_code.Given as goal

abbrev pub invariant-loop-item : goal.invariant-loop-item
invariant-loop-item l =
    first_code (match_output_code l.facts) (drop l.item-index l.output) ≡ first_code (match_output_code l.facts) l.output

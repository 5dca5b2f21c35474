use Rattle.std.proofs.Common.{◌≡◌, false, drop}
use Rattle.kmn_items.specs.TokenTexts.{with_texts}
use Rattle.refusal_details.specs.LeftOut.{item_left_out}
use Rattle.refusal_details.proofs.left_out.item_left_out.Given as goal

abbrev pub invariant-loop-token : goal.invariant-loop-token
invariant-loop-token l =
    item_left_out l.opened l.output (with_texts l.source (drop l.token-index l.all)) ≡ item_left_out false false (with_texts l.source l.all)

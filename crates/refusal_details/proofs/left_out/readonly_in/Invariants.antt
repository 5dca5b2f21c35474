use Rattle.std.proofs.Common.{◌≡◌, false, drop}
use Rattle.kmn_items.specs.TokenTexts.{with_texts}
use Rattle.refusal_details.specs.LeftOut.{readonly_in}
use Rattle.refusal_details.proofs.left_out.readonly_in.Given as goal

abbrev pub invariant-loop-token : goal.invariant-loop-token
invariant-loop-token l =
    readonly_in l.opened (with_texts l.source (drop l.token-index l.all)) ≡ readonly_in false (with_texts l.source l.all)

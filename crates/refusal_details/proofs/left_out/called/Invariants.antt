use Rattle.std.proofs.Common.{◌≡◌, [], drop}
use Rattle.kmn_items.specs.TokenTexts.{with_texts}
use Rattle.refusal_details.specs.LeftOut.{called}
use Rattle.refusal_details.proofs.left_out.called.Given as goal

abbrev pub invariant-loop-token : goal.invariant-loop-token
invariant-loop-token l =
    called l.previous l.word (with_texts l.source (drop l.token-index l.all)) ≡ called [] [] (with_texts l.source l.all)

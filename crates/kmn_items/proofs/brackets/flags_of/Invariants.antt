use Rattle.std.proofs.Common.{◌≡◌, drop}
use Rattle.std.specs.List.{fold}
use Rattle.kmn_items.specs.TokenTexts.{with_texts}
use Rattle.kmn_items.specs.Brackets.{with_flag, flags_of}
use Rattle.kmn_items.proofs.brackets.flags_of.Given as goal

abbrev pub invariant-loop-token : goal.invariant-loop-token
invariant-loop-token l = fold with_flag l.flags (with_texts l.source (drop l.token-index l.all)) ≡ flags_of (with_texts l.source l.all)

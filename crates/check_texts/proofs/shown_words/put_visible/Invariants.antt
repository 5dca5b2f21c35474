use Rattle.std.proofs.Common.{◌≡◌, ◌++◌, drop}
use Rattle.check_texts.specs.Details.{visible_text}
use Rattle.check_texts.proofs.shown_words.put_visible.Given as goal

abbrev pub invariant-loop-byte : goal.invariant-loop-byte
invariant-loop-byte l = l.line ++ visible_text l.previous (drop l.byte-index l.text) ≡ l.fn.line ++ visible_text 0 l.text

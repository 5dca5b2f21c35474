use Rattle.std.proofs.Common.{◌≡◌, drop}
use Rattle.std.specs.List.{list_all}
use Rattle.touch_layout.specs.Ids.{is_word_byte}
use Rattle.touch_layout.proofs.ids.is_word.Given as goal

abbrev pub invariant-loop-byte : goal.invariant-loop-byte
invariant-loop-byte l =
    list_all is_word_byte (drop l.byte-index l.id) ≡ list_all is_word_byte l.id

use Rattle.std.proofs.Common.{◌≡◌, [], ◌++◌, flat_map}
use Rattle.kmn_lines.specs.Lines.{parts_in}
use Rattle.kmn_lines.specs.Tokens.{part_text}
use Rattle.kmn_lines.specs.Walks.{parts_left}
use Rattle.source_faults.specs.Words.{words_in}
use Rattle.source_faults.proofs.words.words_of.Given as goal

abbrev pub invariant-loop-part : goal.invariant-loop-part
invariant-loop-part l =
    l.words ++ flat_map (λ p. words_in [] (part_text l.source p)) (parts_left l.part-iterator)
    ≡ flat_map (λ p. words_in [] (part_text l.source p)) (parts_in l.source l.fn.logical)

use Rattle.std.proofs.Common.{◌≡◌, drop}
use Rattle.std.specs.Prelude.{codes}
use Rattle.std.specs.List.{list_any}
use Rattle.kmn_base.specs.Names.{same_name}
use Rattle.import_tokens.proofs.key_names.has_shift.Given as goal

abbrev pub invariant-loop-word : goal.invariant-loop-word
invariant-loop-word l =
    list_any (λ word. same_name word.text (codes "SHIFT")) (drop l.word-index l.words) ≡ list_any (λ word. same_name word.text (codes "SHIFT")) l.words

use Rattle.std.proofs.Common.{◌++◌, ◌∙◌, ℕ, List, ap, sym, append-nil}
use Rattle.std.specs.Prelude.{codes}
use Rattle.std.specs.Fmt.{decimal}
use Rattle.check_texts.specs.Details.{first_text}
use Rattle.check_texts.proofs.details.first_text.Goals as goal

pub returns : goal.returns
unfolding first_text
returns c =
    c.from_string.ensures ∙ c.in_ok-text.ensures.ok
    ∙ ap (λ (t : List ℕ). codes ", already defined in line " ++ t) (sym (append-nil (decimal c.args.line)))

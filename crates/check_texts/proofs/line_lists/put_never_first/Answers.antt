use Rattle.std.proofs.Common.{◌≡◌, ◌++◌, ◌∙◌, ℕ, List, OnOk, ap, subst, append_assoc}
use Rattle.std.specs.Prelude.{codes}
use Rattle.check_texts.specs.WarningTexts.{listed_lines}
use Rattle.check_texts.proofs.line_lists.put_never_first.Goals as goal

pub returns : goal.returns
returns c =
    subst (λ (t : List ℕ). OnOk c.put_listed.result (c.put_listed.new.text ≡ t))
    (ap (λ (t : List ℕ). t ++ listed_lines c.args.lines.now) c.in_ok-extend_from_slice.ensures
    ∙ append_assoc c.args.text.now (codes "this rule never comes first, behind ") (listed_lines c.args.lines.now)) c.put_listed.ensures

use Rattle.std.proofs.Common.{List, ℕ, Option, sym, ap, ◌∙◌}
use Rattle.decompile_text.specs.Pages.{with_text}
use Rattle.decompile_text.specs.Texts.{if_called}
use Rattle.decompile_text.proofs.MoreText.{with_no_text}
use Rattle.decompile_text.proofs.lines.put_if_called.Goals as goal

pub returns-in-None : goal.returns-in-None
returns-in-None c =
    sym (ap (λ (called : Option (List ℕ)). with_text c.args.page.now (if_called c.args.names.now called c.args.store.now)) (sym c.in-None.ensures) ∙ with_no_text c.args.page.now)

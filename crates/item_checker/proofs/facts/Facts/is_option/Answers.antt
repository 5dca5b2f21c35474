use Rattle.std.proofs.Common.{◌∙◌, ap, List, ℕ}
use Rattle.store_table.specs.Names.{is_named}
use Rattle.store_table.specs.Known.{Known}
use Rattle.item_checker.specs.Items.{is_option}
use Rattle.item_checker.proofs.facts.Facts.is_option.Goals as goal

pub returns : goal.returns
returns c =
    c.has.ensures
    ∙ ap (λ (options : List (List ℕ)). is_named options c.args.name.now) c.self.invariant.named
    ∙ ap (λ (k : Known). is_option k c.args.name.now) c.self.view_is

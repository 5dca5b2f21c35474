use Rattle.std.proofs.Common.{◌∙◌, ap}
use Rattle.store_table.specs.Known.{Known, known}
use Rattle.item_checker.specs.Items.{has_virtual_key}
use Rattle.item_checker.specs.Summaries.{has_key}
use Rattle.item_checker.proofs.SummaryTests.{key_named}
use Rattle.item_checker.proofs.facts.Facts.has_virtual_key.Goals as goal

pub returns : goal.returns
returns c =
    c.has_key.ensures
    ∙ ap has_key c.found_summary.ensures
    ∙ key_named (known c.self.inside.program.now) c.self.inside.stores c.self.inside.options c.args.name.now c.self.invariant
    ∙ ap (λ (k : Known). has_virtual_key k c.args.name.now) c.self.view_is

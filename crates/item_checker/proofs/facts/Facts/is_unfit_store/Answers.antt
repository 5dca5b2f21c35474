use Rattle.std.proofs.Common.{◌∙◌, ap}
use Rattle.store_table.specs.Known.{Known, known}
use Rattle.item_checker.specs.Items.{is_unfit_store}
use Rattle.item_checker.specs.Summaries.{is_unfit_summary}
use Rattle.item_checker.proofs.SummaryTests.{unfit_named}
use Rattle.item_checker.proofs.facts.Facts.is_unfit_store.Goals as goal

pub returns : goal.returns
returns c =
    c.is_unfit.ensures
    ∙ ap is_unfit_summary c.found_summary.ensures
    ∙ unfit_named (known c.self.inside.program.now) c.self.inside.stores c.self.inside.options c.args.name.now c.self.invariant
    ∙ ap (λ (k : Known). is_unfit_store k c.args.name.now) c.self.view_is

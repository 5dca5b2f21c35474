use Rattle.std.proofs.Common.{◌∙◌, ap}
use Rattle.std.specs.List.{list_any}
use Rattle.rule_model.specs.Naming.{elements_named}
use Rattle.store_table.specs.Known.{Known, known}
use Rattle.item_checker.specs.Items.{is_no_plain_key}
use Rattle.item_checker.specs.Summaries.{has_other}
use Rattle.item_checker.proofs.SummaryTests.{other_named}
use Rattle.item_checker.proofs.facts.Facts.lacks_plain_keys.Goals as goal

pub returns : goal.returns
returns c =
    c.has_other.ensures
    ∙ ap has_other c.found_summary.ensures
    ∙ other_named (known c.self.inside.program.now) c.self.inside.stores c.self.inside.options c.args.name.now c.self.invariant
    ∙ ap (λ (k : Known). list_any is_no_plain_key (elements_named k.stores c.args.name.now)) c.self.view_is

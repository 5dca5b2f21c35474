use Rattle.std.proofs.Common.{◌∙◌, ap}
use Rattle.std.specs.List.{list_any}
use Rattle.rule_model.specs.Naming.{elements_named}
use Rattle.store_table.specs.Known.{Known, known}
use Rattle.item_checker.specs.Items.{is_no_character}
use Rattle.item_checker.specs.Summaries.{found_lacks_characters}
use Rattle.item_checker.proofs.SummaryTests.{no_characters_named}
use Rattle.item_checker.proofs.facts.Facts.lacks_characters.Goals as goal

pub returns : goal.returns
returns c =
    c.found_lacks_characters.ensures
    ∙ ap found_lacks_characters c.found_summary.ensures
    ∙ no_characters_named (known c.self.inside.program.now) c.self.inside.stores c.self.inside.options c.args.name.now c.self.invariant
    ∙ ap (λ (k : Known). list_any is_no_character (elements_named k.stores c.args.name.now)) c.self.view_is

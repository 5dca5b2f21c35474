use Rattle.std.proofs.Common.{◌∙◌, ap, []}
use Rattle.store_table.specs.Known.{Known, known}
use Rattle.item_checker.specs.Items.{is_other_text}
use Rattle.item_checker.specs.Summaries.{are_found_keys, summary, with_items}
use Rattle.item_checker.proofs.SummaryTests.{other_text_is}
use Rattle.item_checker.proofs.facts.Facts.is_other_text.Goals as goal

pub returns-in_ok-sum : goal.returns-in_ok-sum
returns-in_ok-sum c =
    c.is_other.ensures
    ∙ other_text_is (known c.self.inside.program.now) c.self.inside.stores c.self.inside.options c.args.store.now c.in_ok-sum.sum c.self.invariant
    (ap (λ (k : Known). are_found_keys k.names c.args.store.now.items) c.self.view_is ∙ c.requires)
    (c.in_ok-sum.ensures ∙ ap (with_items c.self.inside.stores (summary [])) c.as_slice.ensures)
    ∙ ap (λ (k : Known). is_other_text k c.args.store.now) c.self.view_is

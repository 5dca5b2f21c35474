use Rattle.std.proofs.Common.{sym, ◌∙◌, ap}
use Rattle.option_store.specs.declared.options.Held.{Held}
use Rattle.option_store.specs.Cells.{cell_at, held_value}
use Rattle.rule_model.specs.Tab.{tab}
use Rattle.rule_model.specs.Keyboard.{stated}
use Rattle.rule_matching.proofs.StoreContents.{elements_held}
use Rattle.rule_matching.proofs.contents.held.Goals as goal

pub returns-in-Store : goal.returns-in-Store
returns-in-Store c =
    let text = (cell_at c.args.options.now c.args.store).text in
    c.stated.ensures ∙ (elements_held c.args.indexed.now text c.in-Store.value
    ∙ ap (λ (held : Held). held_value (stated (tab c.args.indexed.now).stores) text held) (sym c.in-Store.is))

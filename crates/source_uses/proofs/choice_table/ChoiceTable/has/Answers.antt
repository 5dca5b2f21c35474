use Rattle.std.proofs.Common.{◌∙◌}
use Rattle.source_uses.proofs.Chosen.{table_found}
use Rattle.source_uses.proofs.choice_table.ChoiceTable.has.Goals as goal

pub returns : goal.returns
returns c =
    c.contains.ensures
    ∙ table_found c.self.inside.keys.keys (c.in_ok-name.name, c.in_ok-value.value) c.args.self.now c.args.option.now c.args.value.now c.self.view_is
    (λ j. (c.in_ok-name.ensures j, c.in_ok-value.ensures.items j))

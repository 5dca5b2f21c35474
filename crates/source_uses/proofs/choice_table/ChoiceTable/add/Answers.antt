use Rattle.source_uses.proofs.Chosen.{table_more}
use Rattle.source_uses.proofs.choice_table.ChoiceTable.add.Goals as goal

pub returns : goal.returns
returns c =
    table_more c.self.inside.keys.keys c.insert.new.self.keys (c.in_ok-name.name, c.in_ok-value.value) c.args.self.now c.args.option.now c.args.value.now c.self.view_is
    c.in_ok-insert.ensures.keys (λ j. (c.in_ok-name.ensures j, c.in_ok-value.ensures.items j))

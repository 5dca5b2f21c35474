use Rattle.std.specs.Prelude.{filter_map}
use Rattle.rule_model.specs.Tab.{element_char}
use Rattle.kmx_decompiler.proofs.ValueSets.{put_value}
use Rattle.kmx_decompiler.proofs.values.WrittenValues.add.Goals as goal

pub returns : goal.returns
returns c =
    put_value c.self.inside.found.keys c.insert.new.self.keys c.args.self.now c.in_ok-value.value (filter_map element_char c.args.elements.now) c.self.view_is c.in_ok-value.ensures c.in_ok-insert.ensures.keys

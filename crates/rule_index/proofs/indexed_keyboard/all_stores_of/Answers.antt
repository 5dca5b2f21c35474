use Rattle.std.proofs.Common.{◌∙◌}
use Rattle.rule_index.proofs.StoreIndexes.{all_listed}
use Rattle.rule_index.proofs.indexed_keyboard.all_stores_of.Goals as goal

pub returns : goal.returns
returns c =
    all_listed c.args.file.now c.in_ok-stores.stores.items c.push.new.self.items c.push-2.new.self.items _ _
    c.in_ok-stores.ensures (c.in_ok-from_slice.ensures ∙ c.system_elements.ensures) (c.in_ok-from_slice-2.ensures ∙ c.system_elements-2.ensures) c.in_ok-push.ensures.items c.in_ok-push-2.ensures.items

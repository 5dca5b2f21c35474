use Rattle.std.proofs.Common.{List, Some, subst}
use Rattle.rule_model.specs.declared.tables.Tables.{Tables}
use Rattle.rule_model.specs.Content.{elements_at}
use Rattle.rule_model.specs.Keyboard.{StoreMeaning, stated}
use Rattle.rule_model.specs.Tab.{tab}
use Rattle.rule_index.specs.Holdings.{AreHoldersOf}
use Rattle.rule_index.proofs.StoreIndexes.{holders_in_stores}
use Rattle.rule_index.proofs.indexed_keyboard.IndexedKeyboard.holders.Goals as goal

pub returns : goal.returns
returns c =
    let stores : List StoreMeaning = (tab c.self.inside.file).stores in
    subst (λ (tables : Tables). AreHoldersOf c.args.item (λ store. elements_at (tab tables).stores (Some store)) c.holders.result.now) c.self.view_is
    (holders_in_stores stores c.args.item c.holders.result.now (c.holders.ensures (stated stores) c.self.invariant.4))

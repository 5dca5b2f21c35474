use Rattle.std.proofs.Common.{◌≤◌, ◌∙◌, List, Some, arith, sym, ap}
use Rattle.rule_model.specs.Match.{place_of}
use Rattle.rule_model.specs.Content.{elements_at}
use Rattle.rule_model.specs.Keyboard.{StoreMeaning, stated}
use Rattle.rule_model.specs.Tab.{tab}
use Rattle.rule_index.proofs.Holders.{none_past}
use Rattle.rule_index.proofs.StoreIndexes.{content_is}
use Rattle.rule_index.proofs.indexed_keyboard.IndexedKeyboard.place_of.Goals as goal

pub returns-in-Ok : goal.returns-in-Ok
returns-in-Ok c =
    let stores : List StoreMeaning = (tab c.self.inside.file).stores in
    c.place_of.ensures (stated stores) c.self.invariant.4
    ∙ ap (place_of c.args.item) (content_is stores c.in-Ok.store ∙ (λ i. elements_at (tab (c.self.view_is i)).stores (Some (c.in-Ok.ensures.1 i))))

pub returns-in-Err : goal.returns-in-Err
returns-in-Err c =
    let stores : List StoreMeaning = (tab c.self.inside.file).stores in
    let past : 65536 ≤ c.args.store = omega (arith, c.in-Err.ensures) in
    sym (none_past (stated stores) c.self.inside.holdings c.args.item c.args.store c.self.invariant.4 past)
    ∙ ap (place_of c.args.item) (content_is stores c.args.store ∙ (λ i. elements_at (tab (c.self.view_is i)).stores (Some c.args.store)))

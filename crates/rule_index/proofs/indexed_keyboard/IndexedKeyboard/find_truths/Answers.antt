use Rattle.std.proofs.Common.{◌∙◌, ◌+◌, ◌<◌, Bool, List, length, take, ap, arith}
use Rattle.std.specs.Prelude.{slice_set}
use Rattle.std.proofs.lemmas.List.{length-set}
use Rattle.kmn_base.specs.declared.items.Element.{Element}
use Rattle.rule_model.specs.Keyboard.{StoreMeaning}
use Rattle.rule_model.specs.System.{has_words}
use Rattle.rule_model.specs.Tab.{tab}
use Rattle.rule_index.proofs.StoreIndexes.{one_told}
use Rattle.rule_index.proofs.indexed_keyboard.IndexedKeyboard.find_truths.Goals as goal

pub loop-store-preserved : goal.loop-store-preserved
loop-store-preserved c =
    let stores : List StoreMeaning = (tab c.args.self.now).stores in
    let tell : List Element → Bool = has_words c.args.content.now in
    let within : c.loop-store.store < length stores = omega (arith, c.loop-store-test.true, c.store_count-store-end.ensures.value) in
    record {
      count = length-set c.loop-store.truths c.loop-store.store c.has_words.result ∙ c.loop-store.invariant.count;
      found = ap (λ (is : Bool). take (c.loop-store.store + 1) (slice_set c.loop-store.truths c.loop-store.store is)) (c.has_words.ensures ∙ ap tell c.stated.ensures)
          ∙ one_told tell stores c.loop-store.truths c.loop-store.store c.loop-store.invariant.count within c.loop-store.invariant.found;
    }

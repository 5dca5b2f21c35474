use Rattle.std.proofs.Common.{◌≡◌, map, take, length}
use Rattle.rule_model.specs.Keyboard.{StoreMeaning}
use Rattle.rule_model.specs.System.{has_words}
use Rattle.rule_model.specs.Tab.{tab}
use Rattle.rule_index.proofs.indexed_keyboard.IndexedKeyboard.find_truths.Given as goal

abbrev pub invariant-loop-store : goal.invariant-loop-store
invariant-loop-store l = record {
  count : length l.truths ≡ length (tab l.self).stores;
  found : take l.store l.truths ≡ map (λ (store : StoreMeaning). has_words l.content store.elements) (take l.store (tab l.self).stores);
}

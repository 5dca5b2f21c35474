use Rattle.std.proofs.Common.{◌≤◌, ◌∙◌, All, List, length, subst, sym, arith}
use Rattle.std.proofs.lemmas.Grind.{common_steps}
use Rattle.kmn_base.specs.declared.items.Element.{Element}
use Rattle.kmn_base.specs.declared.limits.TheConstants.{STORE_ELEMENTS}
use Rattle.rule_index.proofs.StoreIndexes.{few_in_all, few_of_all}
use Rattle.rule_model.specs.Tab.{tab}
use Rattle.rule_index.proofs.indexed_keyboard.IndexedKeyboard.new.Goals as goal

pub of-requires-clause-few : goal.of-requires-clause-few
of-requires-clause-few c =
    subst (All (λ (elements : List Element). length elements ≤ STORE_ELEMENTS)) (sym (c.as_slice-2.ensures.value ∙ c.in_ok-stores.ensures))
    (few_of_all c.args.file c.requires.elements)

pub of-requires-clause-count : goal.of-requires-clause-count
of-requires-clause-count c = few_in_all c.args.file c.as_slice-2.result.now (c.as_slice-2.ensures.value ∙ c.in_ok-stores.ensures) c.requires.stores

pub texts_of-requires : goal.texts_of-requires
texts_of-requires c = few_in_all c.args.file c.as_slice-3.result.now (c.as_slice-3.ensures.value ∙ c.in_ok-stores.ensures) c.requires.stores

pub invariant_of-result : goal.invariant_of-result
unfolding tab
invariant_of-result c = grind (arith, common_steps)

pub returns : goal.returns
unfolding tab
returns c = grind (arith, common_steps)

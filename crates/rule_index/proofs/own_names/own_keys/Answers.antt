use Rattle.std.proofs.Common.{◌≤◌, ◌∙◌, List, length, refl, ap, sym, arith}
use Rattle.std.specs.Prelude.{find, filter_map}
use Rattle.std.specs.String.{string_bytes}
use Rattle.std.proofs.lemmas.Grind.{common_steps}
use Rattle.kmn_base.specs.declared.items.Element.{Element}
use Rattle.kmn_base.specs.declared.limits.TheConstants.{STORE_ELEMENTS}
use Rattle.rule_model.specs.Tab.{element_char, is_dictionary, store_elements, tab_dictionary}
use Rattle.rule_index.specs.OwnNames.{names_with}
use Rattle.rule_index.proofs.OwnNames.{names_read}
use Rattle.rule_index.proofs.FewNames.{few_elements}
use Rattle.rule_index.proofs.OwnNames.{names_are_read}
use Rattle.rule_index.proofs.own_names.own_keys.Goals as goal

pub loop-element-init : goal.loop-element-init
loop-element-init c =
    let few : length (store_elements (find is_dictionary c.args.file.now.stores)) ≤ STORE_ELEMENTS = few_elements c.args.file.now.stores c.requires in
    rw (c.new-names.ensures, c.new-word.ensures.bytes, c.into_iter-element-iterator.ensures.into_iter_gives, c.dictionary_elements-element-items.ensures)
    record { names = refl; room = omega (arith, few) }

pub returns : goal.returns
unfolding tab_dictionary
returns c =
    c.in_ok-add_word.ensures
    ∙ ap (names_with c.loop-element.names) c.as_bytes.ensures.value
    ∙ ap (λ (left : List Element). names_read c.loop-element.names (string_bytes c.loop-element.word) (filter_map element_char left)) (sym c.in-None.ensures.steps.0)
    ∙ c.loop-element.invariant.names
    ∙ names_are_read (filter_map element_char (store_elements (find is_dictionary c.args.file.now.stores)))

pub loop-element-preserved : goal.loop-element-preserved
loop-element-preserved c = grind (arith, common_steps)

use Rattle.std.proofs.Common.{◌≡◌, ◌≤◌, ◌+◌, ◌*◌, [], length}
use Rattle.std.specs.Prelude.{find, filter_map}
use Rattle.std.specs.String.{string_bytes}
use Rattle.kmn_base.specs.declared.limits.TheConstants.{STORE_ELEMENTS}
use Rattle.rule_model.specs.Tab.{element_char, is_dictionary, store_elements}
use Rattle.rule_index.proofs.OwnNames.{names_read}
use Rattle.rule_index.proofs.FewNames.{begun}
use Rattle.rule_index.proofs.own_names.own_keys.Given as goal

abbrev pub invariant-loop-element : goal.invariant-loop-element
invariant-loop-element l = record {
  names : names_read l.names (string_bytes l.word) (filter_map element_char l.element-iterator)
      ≡ names_read [] [] (filter_map element_char (store_elements (find is_dictionary l.file.stores)));
  room : 2 * length l.names + begun (string_bytes l.word) + length l.element-iterator ≤ STORE_ELEMENTS;
}

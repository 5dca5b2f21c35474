-- Contexts: what both versions of the engine typed.
use Rattle.std.specs.Prelude.{refl}
use Rattle.virtual_keys.specs.Fits.{char_of_press}
use Rattle.virtual_keys.specs.Keys.{us_characters}
use Rattle.kmn_base.specs.Names.{same_name}
use Rattle.rule_model.specs.Tab.{tab, tab_options, tab_dictionary}
use Rattle.core_meaning.specs.Steps.{core_texts}
use Rattle.core_meaning.specs.WorkedContexts.{AreWorkedContexts}

pub worked_contexts : AreWorkedContexts
unfolding core_texts tab tab_options tab_dictionary char_of_press us_characters same_name
worked_contexts = record {
  nul_behind_if = (refl, refl);
  nul_before_if = (refl, refl);
  context_k_behind_if = (refl, refl);
  context_k_plain = (refl, refl);
  context_k_out_behind_if = (refl, refl);
  index_behind_nul = (refl, refl);
  index_behind_if = (refl, refl);
  context_behind_nul = (refl, refl);
  empty_context = (refl, refl);
  empty_context_with_match = (refl, refl);
  unreached_group = (refl, refl);
}

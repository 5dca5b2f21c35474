-- Outputs: what both versions of the engine typed. The flag that output has ended is down at first.
use Rattle.std.specs.Prelude.{refl}
use Rattle.virtual_keys.specs.Fits.{char_of_press}
use Rattle.virtual_keys.specs.Keys.{us_characters}
use Rattle.kmn_base.specs.Names.{same_name}
use Rattle.rule_model.specs.Tab.{tab, tab_options, tab_dictionary}
use Rattle.core_meaning.specs.Steps.{core_texts}
use Rattle.core_meaning.specs.WorkedOutputs.{AreWorkedOutputs}

pub worked_outputs : AreWorkedOutputs
unfolding core_texts tab tab_options tab_dictionary char_of_press us_characters same_name
worked_outputs = record {
  item_behind_use = (refl, refl);
  nul_behind_use = (refl, refl);
  return_behind_use = (refl, refl);
  item_behind_return = (refl, refl);
  two_uses = (refl, refl);
  match_behind_use = (refl, refl);
  match_nul_behind_use = (refl, refl);
  match_return_behind_use = (refl, refl);
  match_with_use_and_item = (refl, refl);
  match_ends_in_use = (refl, refl);
  save_then_set = (refl, refl);
  save_then_reset = (refl, refl);
  save_alone = (refl, refl);
  save_then_change_in_used_group = (refl, refl);
  save_then_change_in_match = (refl, refl);
  save_of_another = (refl, refl);
}

-- Conditions on the layer and the platform: what both versions of the engine typed.
use Rattle.std.specs.Prelude.{refl}
use Rattle.virtual_keys.specs.Fits.{char_of_press}
use Rattle.virtual_keys.specs.Keys.{us_characters}
use Rattle.kmn_base.specs.Names.{same_name}
use Rattle.rule_model.specs.Tab.{tab, tab_options, tab_dictionary}
use Rattle.core_meaning.specs.Steps.{core_texts}
use Rattle.core_meaning.specs.WorkedConditions.{AreWorkedConditions}

pub worked_conditions : AreWorkedConditions
unfolding core_texts tab tab_options tab_dictionary char_of_press us_characters same_name
worked_conditions = record {
  layer_set_and_asked = (refl, refl);
  layer_unequal = (refl, refl);
  layer_default = (refl, refl);
  layer_only_set = (refl, refl);
  layer_in_nomatch = (refl, refl);
  platform_word = (refl, refl);
  platform_blank_ahead = (refl, refl);
  platform_blank_behind = (refl, refl);
  platform_blanks_between = (refl, refl);
  platform_only_blank = (refl, refl);
}

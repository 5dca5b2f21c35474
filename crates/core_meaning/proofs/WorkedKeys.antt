-- Keys of rules, and presses that no rule takes: what both versions of the engine typed.
use Rattle.std.specs.Prelude.{refl}
use Rattle.virtual_keys.specs.Fits.{char_of_press}
use Rattle.virtual_keys.specs.Keys.{us_characters}
use Rattle.kmn_base.specs.Names.{same_name}
use Rattle.rule_model.specs.Tab.{tab, tab_options, tab_dictionary}
use Rattle.core_meaning.specs.Steps.{core_texts}
use Rattle.core_meaning.specs.WorkedKeys.{AreWorkedKeys}

pub worked_keys : AreWorkedKeys
unfolding core_texts tab tab_options tab_dictionary char_of_press us_characters same_name
worked_keys = record {
  ctrl_and_its_side = (refl, refl);
  ctrl_with_ralt = (refl, refl);
  alt_with_lctrl = (refl, refl);
  sides_named = (refl, refl);
  altgr = (refl, refl);
  altgr_shift = (refl, refl);
  altgr_caps = (refl, refl);
  both_controls_held = (refl, refl);
  both_controls_named = (refl, refl);
  one_side_held_twice = (refl, refl);
  keypad_rule = (refl, refl);
  keypad_named = (refl, refl);
  own_without_rule = (refl, refl);
  own_eaten = (refl, refl);
  nomatch_on_keys = (refl, refl);
  nomatch_nul_on_keys = (refl, refl);
  nomatch_without_keys = (refl, refl);
}

-- The window, marks and K_BKSP: what both versions of the engine typed.
use Rattle.std.specs.Prelude.{refl}
use Rattle.virtual_keys.specs.Fits.{char_of_press}
use Rattle.virtual_keys.specs.Keys.{us_characters}
use Rattle.kmn_base.specs.Names.{same_name}
use Rattle.rule_model.specs.Tab.{tab, tab_options, tab_dictionary}
use Rattle.core_meaning.specs.Steps.{core_texts}
use Rattle.core_meaning.specs.WorkedWindows.{AreWorkedWindows}

pub worked_windows : AreWorkedWindows
unfolding core_texts tab tab_options tab_dictionary char_of_press us_characters same_name
worked_windows = record {
  sixty_two_marks_units = (refl, refl);
  sixty_six_marks_units = (refl, refl);
  sixty_characters = (refl, refl);
  emoji_thirty_two = (refl, refl);
  nul_with_thirty_one_emoji = (refl, refl);
  window_spent_before_use = (refl, refl);
  nul_behind_window_just_enough = (refl, refl);
  nul_behind_spent_window = (refl, refl);
  backspace_on_a_mark = (refl, refl);
  passed_key_on_a_mark = (refl, refl);
  twenty_two_marks_deleted = (refl, refl);
  over_1024_items = (refl, refl);
}

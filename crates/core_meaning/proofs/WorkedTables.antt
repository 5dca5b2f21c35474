-- Files that no source makes: what both versions of the engine typed.
use Rattle.std.specs.Prelude.{refl}
use Rattle.virtual_keys.specs.Fits.{char_of_press}
use Rattle.virtual_keys.specs.Keys.{us_characters}
use Rattle.kmn_base.specs.Names.{same_name}
use Rattle.rule_model.specs.Tab.{tab, tab_options, tab_dictionary}
use Rattle.core_meaning.specs.Steps.{core_texts}
use Rattle.core_meaning.specs.WorkedTables.{AreWorkedTables}

pub worked_tables : AreWorkedTables
unfolding core_texts tab tab_options tab_dictionary char_of_press us_characters same_name
worked_tables = record {
  nameless_reset_alone = (refl, refl);
  two_options_of_a_name = (refl, refl);
  value_that_is_an_option = (refl, refl);
  nul_behind_an_item = (refl, refl);
  two_nul = (refl, refl);
  condition_between_items = (refl, refl);
  empty_context_not_last = (refl, refl);
  both_sides_in_flags = (refl, refl);
}

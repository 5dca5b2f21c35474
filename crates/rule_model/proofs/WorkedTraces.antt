-- Keyboards played by computation: the cheapest test of the definitions.
use Rattle.std.specs.Prelude.{refl}
use Rattle.kmn_base.specs.Names.{same_name}
use Rattle.virtual_keys.specs.Dictionary.{code_in, name_chars}
use Rattle.virtual_keys.specs.Fits.{key_fits, char_of_press}
use Rattle.virtual_keys.specs.Keys.{us_characters}
use Rattle.rule_model.specs.Enter.{by_default}
use Rattle.rule_model.specs.Event.{happening}
use Rattle.rule_model.specs.KeyEvent.{after_key}
use Rattle.rule_model.specs.Naming.{names_of, stores_of}
use Rattle.rule_model.specs.Src.{src, src_options, cased_keys}
use Rattle.rule_model.specs.Tab.{tab, tab_options, tab_dictionary}
use Rattle.rule_model.specs.Trace.{trace}
use Rattle.rule_model.specs.WorkedTraces.{AreWorkedTraces}

pub worked_traces : AreWorkedTraces
unfolding trace tab tab_options tab_dictionary src src_options cased_keys names_of stores_of after_key happening by_default key_fits char_of_press same_name name_chars code_in us_characters
worked_traces = record {
  longest = refl;
  indexed = refl;
  budget = refl;
  marks = refl;
  best_of_source = refl;
  key_store_of_source = refl;
  layers = refl;
  platforms = refl;
  cased_key_of_source = refl;
}

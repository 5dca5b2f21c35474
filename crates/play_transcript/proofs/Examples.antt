-- Examples of printed text, proved by computation.
use Rattle.std.specs.Prelude.{◌≡◌, refl, [], ◌∷◌, codes}
use Rattle.std.specs.Fmt.{digits}
use Rattle.rule_model.specs.declared.script.Entry.TheVariants.{Act, Expect}
use Rattle.rule_model.specs.declared.tables.Pat.TheVariants as pattern
use Rattle.rule_model.specs.declared.tables.Out.TheVariants as output
use Rattle.virtual_keys.specs.Fits.{key_fits, char_of_press}
use Rattle.virtual_keys.specs.Dictionary.{name_chars}
use Rattle.virtual_keys.specs.Keys.{us_characters}
use Rattle.kmn_base.specs.Names.{same_name}
use Rattle.rule_model.specs.ChosenLines.{lines_of_press}
use Rattle.rule_model.specs.Enter.{by_default}
use Rattle.rule_model.specs.Event.{happening}
use Rattle.rule_model.specs.KeyEvent.{after_key}
use Rattle.rule_model.specs.Tab.{tab, tab_options, tab_dictionary}
use Rattle.rule_model.specs.Trace.{trace}
use Rattle.rule_model.specs.WorkedTraces.{one_group, rule, press}
use Rattle.rule_trace.specs.Coverage.{with_lines}
use Rattle.play_transcript.specs.TraceText.{numbers_text, fired_line, never_line, events_line, hits_text, trace_text}

-- numbers are joined by dots
pub many_numbers : numbers_text (19 ∷ 20 ∷ 28 ∷ []) ≡ codes "19.20.28"
unfolding digits
many_numbers = refl

pub no_numbers : numbers_text [] ≡ codes "-"
no_numbers = refl

pub two_fired : fired_line 3 (21 ∷ 27 ∷ []) ≡ codes "3 fired 21.27\n"
unfolding digits
two_fired = refl

-- the rule with the longer context is selected, and the rule of the other line never fires
pub longest_fires : trace_text (tab (one_group [] (rule 4 99 (pattern.Char 97 ∷ []) (output.Char 121 ∷ []) ∷ rule 3 99 [] (output.Char 120 ∷ []) ∷ []))) (3 ∷ 4 ∷ []) (Act 1 (press 65) ∷ Expect 2 [] ∷ Act 3 (press 67) ∷ [])
    ≡ codes "1 fired -\n2 fired 4\nhit 4=1\nnever 3\nend events=2\n"
unfolding trace tab tab_options tab_dictionary after_key happening by_default key_fits char_of_press same_name name_chars us_characters lines_of_press with_lines never_line events_line hits_text trace_text digits
longest_fires = refl

-- without rules and events, no line is chosen and no line is listed as never chosen
pub nothing_fires : trace_text (tab (one_group [] [])) [] [] ≡ codes "never -\nend events=0\n"
unfolding trace never_line events_line hits_text trace_text digits
nothing_fires = refl

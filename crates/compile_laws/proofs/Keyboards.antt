-- The parts of the keyboards of a program and of tables, which are not unfolded elsewhere.
use Rattle.std.proofs.Common.{◌≡◌, refl}
use Rattle.std.specs.Prelude.{map, find, List, [], ◌++◌}
use Rattle.kmn_base.specs.declared.events.Event.{Event}
use Rattle.kmn_base.specs.declared.keys.KeyPress.{KeyPress}
use Rattle.rule_model.specs.declared.event_state.EventState.{EventState}
use Rattle.rule_model.specs.declared.program.Program.{Program}
use Rattle.rule_model.specs.declared.tables.Tables.{Tables}
use Rattle.rule_model.specs.Keyboard.{Keyboard, Numbered, Best, First}
use Rattle.rule_model.specs.System.{system_options}
use Rattle.rule_model.specs.Naming.{names_of}
use Rattle.compile_laws.specs.WellNamed.{stated_stores}
use Rattle.rule_model.specs.Src.{src, cased_keys, src_group, start_named, is_unicode}
use Rattle.rule_model.specs.Tab.{tab, tab_group, tab_dictionary, tab_options, with_options}
use Rattle.rule_model.specs.Enter.{enter_group}
use Rattle.rule_model.specs.KeyEvent.{after_key}
use Rattle.rule_model.specs.Trace.{trace, trace_of, steps_from, first_state}

pub src_start : (p : Program) → (src p).start ≡ start_named (find is_unicode p.begins)
unfolding src
src_start p = refl

pub src_stores : (p : Program) → (src p).stores ≡ stated_stores p ++ system_options
unfolding src
src_stores p = refl

pub src_groups : (p : Program) → (src p).groups ≡ map (src_group (names_of p)) p.groups
unfolding src
src_groups p = refl

pub src_dictionary : (p : Program) → (src p).dictionary ≡ (names_of p).keys
unfolding src
src_dictionary p = refl

pub src_cased : (p : Program) → (src p).cased ≡ cased_keys p
unfolding src
src_cased p = refl

pub tab_cased : (t : Tables) → (tab t).cased ≡ []
unfolding tab
tab_cased t = refl

pub src_choice : (p : Program) → (src p).choice ≡ Best
unfolding src
src_choice p = refl

pub tab_start : (t : Tables) → (tab t).start ≡ Numbered t.start_unicode
unfolding tab
tab_start t = refl

pub tab_stores : (t : Tables) → (tab t).stores ≡ with_options (tab_options t) 0 t.stores ++ system_options
unfolding tab
tab_stores t = refl

pub tab_groups : (t : Tables) → (tab t).groups ≡ map (tab_group t.stores) t.groups
unfolding tab
tab_groups t = refl

pub tab_names : (t : Tables) → (tab t).dictionary ≡ tab_dictionary t.stores
unfolding tab
tab_names t = refl

pub tab_choice : (t : Tables) → (tab t).choice ≡ First
unfolding tab
tab_choice t = refl

pub after_key-enters : (kb : Keyboard) (press : KeyPress) (s : EventState) → after_key kb press s ≡ enter_group 50 kb press kb.start s
unfolding after_key
after_key-enters kb press s = refl

pub trace-steps : (kb : Keyboard) (events : List Event) → trace kb events ≡ trace_of (first_state kb) (steps_from kb 1 events (first_state kb))
unfolding trace
trace-steps kb events = refl

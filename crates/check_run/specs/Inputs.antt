-- What a check finds in a touch layout and in a script, for a source that compiles.
use Rattle.std.specs.Prelude.{◌≡◌, ℕ, Bool, true, false, if◌then◌else◌, List, [], ◌∷◌, flat_map, is_some, position, Option, Some, None, Result, Ok, Err}
use Rattle.kmn_base.specs.declared.codes.Code.TheVariants.{T7}
use Rattle.kmn_base.specs.declared.events.Event.{Event}
use Rattle.kmn_base.specs.declared.events.Event.TheVariants as event
use Rattle.rule_model.specs.Event.{has_name}
use Rattle.rule_model.specs.Plain.{option_names}
use Rattle.rule_model.specs.Tab.{tab}
use Rattle.rule_model.specs.declared.program.Program.{Program}
use Rattle.rule_model.specs.declared.script.Entry.{Entry}
use Rattle.rule_model.specs.declared.script.Entry.TheVariants.{Act, Expect}
use Rattle.rule_model.specs.declared.tables.Tables.{Tables}
use Rattle.name_warnings.specs.Laid.{keys_not_laid}
use Rattle.touch_layout.specs.Faults.{fault, whole_layout}
use Rattle.touch_layout.specs.Layout.{layout_fault, layout_ids}
use Rattle.touch_layout.specs.declared.faults.LayoutFault.{LayoutFault}
use Rattle.keyman_words.specs.declared.reason.Reason.{Reason}
use Rattle.keyman_words.specs.declared.reason.Reason.TheVariants as reason
use Rattle.keyman_run.specs.Work.{Reading}
use Rattle.keyman_run.specs.Work.Reading.{Bytes, Over}
use Rattle.keyman_run.specs.declared.preparing.Stop.{Stop}
use Rattle.keyman_run.specs.declared.preparing.Stop.TheVariants as stop
use Rattle.check_run.specs.declared.findings.InputFindings.{InputFindings}
use Rattle.check_run.specs.declared.findings.LayoutFindings.{LayoutFindings}
use Rattle.check_run.specs.declared.findings.LayoutFindings.TheVariants as layouts
use Rattle.check_run.specs.declared.findings.ScriptFindings.{ScriptFindings}
use Rattle.check_run.specs.declared.findings.ScriptFindings.TheVariants as script
use Rattle.check_run.specs.declared.findings.UnknownOption.{UnknownOption}

-- whether the keyboard of tables has an option with a name: one that an event can set
abbrev pub has_option : Tables → List ℕ → Bool
has_option tables name = is_some (position (has_name name) (option_names (tab tables).stores))

-- a name that an entry of a line sets, if it is not the name of an option
abbrev pub unknown_named : Tables → ℕ → List ℕ → List UnknownOption
unknown_named tables line name = if has_option tables name then [] else record { line = line; name = name } ∷ []

-- the unknown option that an event sets, if there is one
abbrev pub unknown_event : Tables → ℕ → Event → List UnknownOption
unknown_event tables line (event.Setting name value) = unknown_named tables line name
unknown_event tables line other = []

-- the unknown option that an entry sets, if there is one
abbrev pub unknown_entry : Tables → Entry → List UnknownOption
unknown_entry tables (Act line happening) = unknown_event tables line happening
unknown_entry tables (Expect line text) = []

-- the unknown options that entries set, for the keyboard of tables
abbrev pub unknown_options : Tables → List Entry → List UnknownOption
unknown_options tables entries = flat_map (unknown_entry tables) entries

-- the ids of the keys of a layout, unless the layout breaks a rule
abbrev pub unless_broken : List (List ℕ) → Option LayoutFault → Result (List (List ℕ)) Reason
unless_broken ids None = Ok ids
unless_broken ids (Some broken) = Err (reason.Layout broken)

-- the ids of the keys of a layout if it keeps all rules for the keyboard of tables, else the first rule that it breaks
abbrev pub ids_in : Tables → Reading → Result (List (List ℕ)) Reason
ids_in tables (Bytes bytes) = unless_broken (layout_ids bytes) (layout_fault bytes tables)
ids_in tables (Over size) = Err (reason.Layout (fault T7 whole_layout))

-- what is found in a layout whose keys have these ids: W17 of the rules of the program
abbrev pub layout_read : Program → List (List ℕ) → LayoutFindings
layout_read program ids = layouts.Accepted (keys_not_laid program ids)

-- what is found in a script with these entries
abbrev pub script_read : Tables → List Entry → ScriptFindings
script_read tables entries = script.Accepted (unknown_options tables entries)

-- what is found in a layout by the result of reading the ids of its keys, unless an allocation fails
abbrev pub LaysIn : Program → Result (List (List ℕ)) Stop → Result LayoutFindings Stop → Type 0
LaysIn program (Ok ids) (Ok found) = found ≡ layout_read program ids
LaysIn program (Ok ids) (Err s) = s ≡ stop.Memory
LaysIn program (Err (stop.Refused why)) result = result ≡ Ok (layouts.Refused why)
LaysIn program (Err stop.ReadFault) result = result ≡ Err stop.ReadFault
LaysIn program (Err stop.Memory) result = result ≡ Err stop.Memory

-- what is found in a script by the result of reading it, unless an allocation fails
abbrev pub FindsIn : Tables → Result (List Entry) Stop → Result ScriptFindings Stop → Type 0
FindsIn tables (Ok entries) (Ok found) = found ≡ script_read tables entries
FindsIn tables (Ok entries) (Err s) = s ≡ stop.Memory
FindsIn tables (Err (stop.Refused why)) result = result ≡ Ok (script.Refused why)
FindsIn tables (Err stop.ReadFault) result = result ≡ Err stop.ReadFault
FindsIn tables (Err stop.Memory) result = result ≡ Err stop.Memory

-- whether a script is accepted
abbrev pub is_accepted : ScriptFindings → Bool
is_accepted (script.Refused why) = false
is_accepted (script.Accepted unknown) = true

-- whether neither a layout nor a script is refused
abbrev pub are_accepted : LayoutFindings → ScriptFindings → Bool
are_accepted (layouts.Refused why) found = false
are_accepted (layouts.Accepted warnings) found = is_accepted found

unfoldable pub is_sound : InputFindings → Bool
is_sound inputs = are_accepted inputs.layout inputs.script

-- How work on files ends: its status, the file that it writes, and what it prints.
use Rattle.std.specs.Prelude.{ℕ, List, [], ◌∷◌, ◌++◌, Option, Some, None, option_map, Result, Ok, Err}
use Rattle.kmn_outside.specs.Outside.{Files}
use Rattle.rule_model.specs.Keyboard.{Keyboard}
use Rattle.rule_model.specs.declared.tables.Tables.{Tables}
use Rattle.rule_model.specs.Trace.{Trace, trace}
use Rattle.rule_model.specs.Transcript.{events_of, transcript}
use Rattle.rule_model.specs.declared.script.Entry.{Entry}
use Rattle.kmn_compiler.specs.declared.compiling.Compiled.{Compiled}
use Rattle.keyman_words.specs.declared.reason.Reason.{Reason}
use Rattle.keyman_words.specs.Lines.{compiled_line, decompiled_line, sound_line, valid_line}
use Rattle.keyman_words.specs.Reasons.{reason_line}
use Rattle.keyman_words.specs.declared.status.Status.{Status}
use Rattle.keyman_words.specs.declared.status.Status.TheVariants as status
use Rattle.keyman_run.specs.Asked.{Ask, write_of}
use Rattle.play_transcript.specs.Ends.{play_end}
use Rattle.play_transcript.specs.declared.playing.PlayEnd.{PlayEnd}
use Rattle.play_transcript.specs.declared.playing.PlayEnd.TheVariants as ended
use Rattle.play_transcript.specs.TraceEnds.{trace_end}
use Rattle.play_transcript.specs.TraceText.{trace_text}
use Rattle.play_transcript.specs.declared.following.TraceEnd.{TraceEnd}
use Rattle.play_transcript.specs.declared.following.TraceEnd.TheVariants as followed
use Rattle.shadow_text.specs.DeadLines.{dead_text}
use Rattle.text_host.specs.declared.entries.HostEntry.{HostEntry}
use Rattle.play_transcript.specs.HostText.{host_end, host_text}
use Rattle.keyman_run.specs.Work.{Work, reads, comes_to}

-- how work ends if no call fails: its status, the file that it writes by name and bytes, and all that it prints
pub record Ending : Type 0 where
  pub status : Status
  pub file : Option (List ℕ × List ℕ)
  pub printed : List ℕ

-- the ending of refused work prints the line of the reason and writes no file
abbrev pub refused_ending : Reason → Ending
refused_ending why = record { status = status.Refused; file = None; printed = reason_line why }

-- the ending for arguments that are not a command, which do no work
abbrev pub words_ending : Ending
words_ending = record { status = status.Words; file = None; printed = [] }

-- a compilation writes the file and prints its line
abbrev pub compile_ending : List ℕ → Compiled → Ending
compile_ending name compiled = record { status = status.Done; file = Some (name, compiled.bytes); printed = compiled_line compiled }

-- a verification prints the line of the file
abbrev pub verify_ending : Tables → Ending
verify_ending tables = record { status = status.Done; file = None; printed = valid_line tables }

-- a decompilation writes the text and prints its line
abbrev pub decompile_ending : List ℕ → List ℕ → Ending
decompile_ending name source = record { status = status.Done; file = Some (name, source); printed = decompiled_line source }

-- the check of a layout prints its line
abbrev pub layout_ending : ℕ → Ending
layout_ending count = record { status = status.Done; file = None; printed = sound_line count }

-- a load prints its line
abbrev pub load_ending : List ℕ → Ending
load_ending line = record { status = status.Done; file = None; printed = line }

-- the status of a run that ends with a play
abbrev pub end_status : PlayEnd → Status
end_status ended.Done = status.Done
end_status ended.Refused = status.Refused
end_status ended.ExpectFailed = status.ExpectFailed

abbrev pub play_status : Trace → List Entry → Status
play_status traced entries = end_status (play_end traced entries)

-- a play prints what a keyboard does with the script, and writes no file
abbrev pub play_ending : Keyboard → List Entry → Ending
play_ending kb entries = record { status = play_status (trace kb (events_of entries)) entries; file = None; printed = transcript kb entries }

-- a compiled keyboard and the script to play on it
pub record Job : Type 0 where
  pub compiled : Compiled
  pub entries : List Entry

-- a test writes a file, and prints what a keyboard does with the script
abbrev pub test_ending : List ℕ → List ℕ → Keyboard → List Entry → Ending
test_ending name bytes kb entries =
    record {
      status = play_status (trace kb (events_of entries)) entries;
      file = Some (name, bytes);
      printed = transcript kb entries;
    }

-- the status of a run that ends with a trace
abbrev pub end_of_trace : TraceEnd → Status
end_of_trace followed.Done = status.Done
end_of_trace followed.Refused = status.Refused

abbrev pub trace_status : Trace → Status
trace_status traced = end_of_trace (trace_end traced)

-- a trace prints which lines fire when a keyboard runs the script, and which of these lines never fire, and writes no file
abbrev pub trace_ending : Keyboard → List ℕ → List Entry → Ending
trace_ending kb lines entries = record { status = trace_status (trace kb (events_of entries)); file = None; printed = trace_text kb lines entries }

-- a search for rules that never fire prints the lines that it found, and writes no file
abbrev pub shadow_ending : Tables → Ending
shadow_ending tables = record { status = status.Done; file = None; printed = dead_text tables }

-- a host prints what its fields on a keyboard's tables do with a script, and writes no file
abbrev pub host_ending : Tables → List HostEntry → Ending
host_ending tables entries = record { status = end_status (host_end tables entries); file = None; printed = host_text tables entries }

-- the ending of work by its result: refused work ends with the line of the reason
abbrev pub conclusion : Result Ending Reason → Ending
conclusion (Ok ending) = ending
conclusion (Err why) = refused_ending why

-- how work ends, or `None` if a file is missing
abbrev pub ends : Files → Work Ending → Option Ending
ends files work = option_map conclusion (comes_to files work)

-- the write access to the file of an ending, if it writes one
abbrev pub file_asks : Option (List ℕ × List ℕ) → List Ask
file_asks None = []
file_asks (Some file) = write_of file.0 ∷ []

abbrev pub writes : Option Ending → List Ask
writes None = []
writes (Some ending) = file_asks ending.file

-- all accesses of work in order: its reads, and the write of its ending unless a file is missing
abbrev pub asked : Files → Work Ending → List Ask
asked files work = reads files work ++ writes (ends files work)

-- The laws of a program that a source is accepted with.
use Rattle.std.specs.Prelude.{◌≡◌, ℕ, List, None, Ok}
use Rattle.kmn_base.specs.declared.events.Event.{Event}
use Rattle.rule_model.specs.declared.program.Program.{Program}
use Rattle.rule_model.specs.declared.script.Entry.{Entry}
use Rattle.rule_model.specs.Src.{src}
use Rattle.rule_model.specs.Tab.{tab}
use Rattle.rule_model.specs.Trace.{trace}
use Rattle.rule_model.specs.Transcript.{transcript}
use Rattle.kmx_format.specs.File.{file_of}
use Rattle.kmx_writer.specs.Excess.{excess}
use Rattle.compile_laws.specs.Means.{Means}
use Rattle.compile_laws.specs.Ordered.{compiled_tables}
use Rattle.rule_checker.specs.Refused.{checked}

-- if a source is accepted, the tables of its program take the steps of the program, whatever the events
abbrev pub TablesTakeItsSteps : Type 0
TablesTakeItsSteps =
    (source : List ℕ) (program : Program) → checked source ≡ Ok program
    → (events : List Event) → trace (src program) events ≡ trace (tab (compiled_tables program)) events

-- if a source is accepted, the tables of its program print what the program prints, whatever the entries of a script
abbrev pub TablesPrintTheSame : Type 0
TablesPrintTheSame =
    (source : List ℕ) (program : Program) → checked source ≡ Ok program
    → (entries : List Entry) → transcript (src program) entries ≡ transcript (tab (compiled_tables program)) entries

-- if a source is accepted and no limit is passed with a picture, the file of its tables with the picture means the program
abbrev pub FilesMeanIt : Type 0
FilesMeanIt =
    (source : List ℕ) (program : Program) → checked source ≡ Ok program
    → (picture : List ℕ) → excess (compiled_tables program) picture ≡ None → Means (file_of (compiled_tables program) picture) program

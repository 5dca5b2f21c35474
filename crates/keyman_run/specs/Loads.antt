-- The results of a load: a large keyboard of a given size that is generated, compiled and played.
use Rattle.std.specs.Prelude.{◌≡◌, ℕ, ◌+◌, ◌*◌, List, [], ◌∷◌, ◌++◌, length, codes, if◌then◌else◌, Option, Some, None, Result, Ok, Err}
use Rattle.std.specs.List.{concat}
use Rattle.std.specs.Fmt.{decimal}
use Rattle.kmn_base.specs.Answers.{and_then}
use Rattle.kmn_base.specs.declared.codes.Code.{Code}
use Rattle.kmx_format.specs.File.{all_rules}
use Rattle.rule_model.specs.Event.{State, whole_text}
use Rattle.rule_model.specs.Src.{src}
use Rattle.rule_model.specs.Tab.{tab}
use Rattle.rule_model.specs.Trace.{Step, Trace, trace}
use Rattle.rule_model.specs.Transcript.{events_of}
use Rattle.rule_model.specs.declared.program.Program.{Program}
use Rattle.rule_model.specs.declared.script.Entry.{Entry}
use Rattle.kmn_compiler.specs.declared.compiling.Compiled.{Compiled}
use Rattle.load_maker.specs.Plays.{items_put, last_state}
use Rattle.load_maker.specs.Loads.{is_in_range, load_source, load_script}
use Rattle.play_session.specs.Session.{SessionState}
use Rattle.keyman_run.specs.declared.loading.Progress.{Progress}
use Rattle.keyman_run.specs.declared.loading.Sums.{Sums}
use Rattle.keyman_run.specs.declared.preparing.Stop.{Stop}
use Rattle.keyman_run.specs.declared.preparing.Stop.TheVariants as stop
use Rattle.keyman_words.specs.declared.reason.Reason.{Reason}
use Rattle.keyman_words.specs.declared.reason.Reason.TheVariants as reason
use Rattle.keyman_run.specs.Endings.{Job}
use Rattle.keyman_run.specs.Inputs.{file_from, pictured_within, program_of, script_of}
use Rattle.play_transcript.specs.Playing.{steps_left}
use Rattle.keyman_run.specs.Work.Reading.{Bytes}

-- the file of a program without a picture, unless it is over a limit
abbrev pub compiled_within : Program → Result Compiled Reason
compiled_within program = and_then (pictured_within program []) (λ pictured. Ok (file_from pictured))

-- the job of a compiled keyboard and a script that is read with this dictionary of keys
abbrev pub script_job : Compiled → (dictionary : List (List ℕ)) → (script : List ℕ) → Result Job Reason
script_job compiled dictionary script =
    and_then (script_of dictionary (Bytes script)) (λ entries. Ok (record { compiled = compiled; entries = entries }))

-- the job of a program that is compiled without a picture, and a script that is read for it
abbrev pub program_job : Program → (script : List ℕ) → Result Job Reason
program_job program script =
    and_then (compiled_within program) (λ compiled. script_job compiled (src program).dictionary script)

-- the job of a source that is compiled without a picture, and a script that is read for it
abbrev pub job_of : (source script : List ℕ) → Result Job Reason
job_of source script = and_then (program_of (Bytes source)) (λ program. program_job program script)

-- the job of the load of a number: its source is compiled and its script is read
abbrev pub load_job : ℕ → Result Job Reason
load_job number = if is_in_range number then job_of (load_source number) (load_script number) else Err reason.Number

-- the sums of the steps of a play that starts in a state
abbrev pub sums_from : State → List Step → Sums
sums_from state steps = record { events = length steps; put = items_put steps; text = length (whole_text (last_state state steps)) }

-- the sums of a play, unless an event is refused
abbrev pub unless_stopped : Sums → Option (ℕ × Code) → Result Sums Reason
unless_stopped sums None = Ok sums
unless_stopped sums (Some refused) = Err (reason.Event refused.0 refused.1)

abbrev pub sums_of : Trace → Result Sums Reason
sums_of traced = unless_stopped (sums_from traced.first traced.done) traced.refused

-- the first part of a load's line: its number, and the numbers of rules and bytes of its file
unfoldable pub file_part : (number rules bytes : ℕ) → List ℕ
file_part number rules bytes = concat (codes "load n=" ∷ decimal number ∷ codes " rules=" ∷ decimal rules ∷ codes " bytes=" ∷ decimal bytes ∷ [])

-- the second part of a load's line: the sums of its play
unfoldable pub play_part : Sums → List ℕ
play_part sums =
    concat (codes " events=" ∷ decimal sums.events ∷ codes " put=" ∷ decimal sums.put ∷ codes " text=" ∷ decimal sums.text ∷ codes "\n" ∷ [])

abbrev pub load_line : (number rules bytes : ℕ) → Sums → List ℕ
load_line number rules bytes sums = file_part number rules bytes ++ play_part sums

-- the line of the load of a number that is generated, compiled and played
abbrev pub played_load : ℕ → Result (List ℕ) Reason
played_load number =
    and_then (load_job number) (λ job.
    and_then (sums_of (trace (tab job.compiled.tables) (events_of job.entries))) (λ sums.
    Ok (load_line number (length (all_rules job.compiled.tables)) (length job.compiled.bytes) sums)))

-- the same line computed from only the number: a rule for each press of K_A, 28 bytes for each rule after the first one, an item
-- for each press, and two characters at the end
abbrev pub load_text : ℕ → Result (List ℕ) Reason
load_text number =
    if is_in_range number then Ok (load_line number (number + 1) (122 + 28 * number) (record { events = number + 2; put = number + 2; text = 2 }))
    else Err reason.Number

-- the progress before the first entry
abbrev pub no_progress : Progress
no_progress = record { number = 0; events = 0; put = 0 }

-- the sums of a play that starts after this progress
abbrev pub sums_behind : Progress → Sums → Sums
sums_behind progress sums = record { events = progress.events + sums.events; put = progress.put + sums.put; text = sums.text }

-- the sums of the whole play, from the progress and the entries that are left in a session, unless an event is refused
abbrev pub sums_left : SessionState → Progress → List Entry → Result Sums Reason
sums_left session progress entries =
    unless_stopped (sums_behind progress (sums_from session.state (steps_left session entries).done)) (steps_left session entries).refused

-- the result of a play is its result after an entry, or the reason for which the entry stops the play
abbrev pub LeadsTo : Result Sums Reason → (Progress → Result Sums Reason) → Result Progress Stop → Type 0
LeadsTo whole rest (Ok next) = whole ≡ rest next
LeadsTo whole rest (Err (stop.Refused why)) = whole ≡ Err why
LeadsTo whole rest (Err stop.ReadFault) = ⊥
LeadsTo whole rest (Err stop.Memory) = Unit {0}

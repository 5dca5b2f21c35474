-- The line of a load is determined by its number.
use Rattle.std.proofs.Common.{◌≡◌, ℕ, suc, ◌+◌, ◌*◌, ◌≤◌, nat_lt, Bool, true, false, if◌then◌else◌, List, [], length, Option, Some, None, Result, Ok, Err, refl, ap, ◌∙◌, arith}
use Rattle.std.proofs.lemmas.Bool.Decides.{nat_tests}
use Rattle.kmn_base.specs.Answers.{and_then}
use Rattle.kmn_base.specs.declared.codes.Code.{Code}
use Rattle.kmn_base.specs.declared.codes.Code.TheVariants.{C23}
use Rattle.kmn_base.specs.declared.events.Event.{Event}
use Rattle.kmn_base.specs.declared.limits.TheConstants.{FILE_BYTES}
use Rattle.kmn_base.specs.declared.refusals.Refusal.{Refusal}
use Rattle.kmn_compiler.specs.declared.compiling.Compiled.{Compiled}
use Rattle.compile_laws.specs.Ordered.{compiled_tables}
use Rattle.kmx_format.specs.File.{all_rules}
use Rattle.kmx_writer.specs.Excess.{excess}
use Rattle.rule_model.specs.Src.{src}
use Rattle.rule_model.specs.Tab.{tab}
use Rattle.rule_model.specs.Trace.{Trace, trace}
use Rattle.rule_model.specs.Transcript.{events_of}
use Rattle.rule_model.specs.declared.program.Program.{Program}
use Rattle.rule_model.specs.declared.script.Entry.{Entry}
use Rattle.load_maker.specs.Loads.{is_in_range, load_source, load_script}
use Rattle.load_maker.specs.Keyboards.{load_events}
use Rattle.load_maker.specs.Plays.{Plays}
use Rattle.load_maker.specs.Programs.{load_program}
use Rattle.load_maker.specs.Scripts.{press_entries}
use Rattle.load_maker.proofs.LoadChecks.{sources_are_checked}
use Rattle.load_maker.proofs.LoadFiles.{files_have_sizes}
use Rattle.load_maker.proofs.LoadPlays.{files_play}
use Rattle.load_maker.proofs.LoadScripts.{scripts_are_read}
use Rattle.keyman_run.specs.declared.loading.Sums.{Sums}
use Rattle.keyman_words.specs.declared.reason.Reason.{Reason}
use Rattle.keyman_words.specs.declared.reason.Reason.TheVariants as reason
use Rattle.keyman_run.specs.Endings.{Job}
use Rattle.keyman_run.specs.Inputs.{Pictured, by_line, file_from, unless_large}
use Rattle.keyman_run.specs.Loads.{job_of, load_line, load_text, played_load, program_job, script_job, sums_of, unless_stopped}

-- if a play outputs an item for each event and leaves two characters, these are its sums
sums_stated : (count : ℕ) (traced : Trace) → Plays count traced → sums_of traced ≡ Ok (record { events = count; put = count; text = 2 })
sums_stated count traced h = λ i. unless_stopped (record { events = h.steps i; put = h.put i; text = h.text i }) (h.refused i)

module _ (n : ℕ) (within : n ≤ 2000) where
  abbrev program : Program
  program = load_program n

  abbrev pictured : Pictured
  pictured = record { program = program; picture = [] }

  abbrev job : Job
  job = record { compiled = file_from pictured; entries = press_entries 1 (suc n) }

  -- the file is not over the size limit
  abbrev passed_by : Bool → ℕ → Option (Code × ℕ)
  passed_by over size = if over then Some (C23, size) else None

  small : (size : ℕ) → size ≤ 56122 → passed_by (nat_lt FILE_BYTES size) size ≡ None
  small size few = by_test (nat_lt FILE_BYTES size) (grind (arith, nat_tests))
    where
      by_test : (over : Bool) → over ≡ false → passed_by over size ≡ None
      by_test false is = refl
      by_test true is = absurd (cc)

  not_large : excess (compiled_tables program) [] ≡ None
  not_large =
      let sizes = files_have_sizes n within in
      ap (λ (size : ℕ). passed_by (nat_lt FILE_BYTES size) size) sizes.bytes ∙ small (122 + 28 * n) (omega arith)

  job_stated : job_of (load_source n) (load_script n) ≡ Ok job
  job_stated =
      ap (λ (read : Result Program Refusal). and_then (by_line read) (λ p. program_job p (load_script n))) (sources_are_checked n within)
      ∙ ap (λ (passed : Option (Code × ℕ)). and_then (and_then (unless_large pictured passed) (λ (p : Pictured). Ok (file_from p))) (λ (compiled : Compiled). script_job compiled (src program).dictionary (load_script n))) not_large
      ∙ ap (λ (read : Result (List Entry) Refusal). and_then (by_line read) (λ (entries : List Entry). Ok (record { compiled = file_from pictured; entries = entries }))) (scripts_are_read n (src program).dictionary within).0

  abbrev line : ℕ → ℕ → Sums → Result (List ℕ) Reason
  line rules bytes sums = Ok (load_line n rules bytes sums)

  play_stated : sums_of (trace (tab (compiled_tables program)) (events_of (press_entries 1 (suc n)))) ≡ Ok (record { events = n + 2; put = n + 2; text = 2 })
  play_stated =
      ap (λ (events : List Event). sums_of (trace (tab (compiled_tables program)) events)) (scripts_are_read n (src program).dictionary within).1
      ∙ sums_stated (n + 2) (trace (tab (compiled_tables program)) (load_events n)) (files_play n within)

  line_stated : and_then (sums_of (trace (tab job.compiled.tables) (events_of job.entries))) (line (length (all_rules job.compiled.tables)) (length job.compiled.bytes))
      ≡ Ok (load_line n (n + 1) (122 + 28 * n) (record { events = n + 2; put = n + 2; text = 2 }))
  line_stated =
      let sizes = files_have_sizes n within in
      λ i. and_then (play_stated i) (line (sizes.rules i) (sizes.bytes i))

-- the line of a job, or the reason for which it has none
abbrev line_of : ℕ → Job → Result (List ℕ) Reason
line_of n job =
    and_then (sums_of (trace (tab job.compiled.tables) (events_of job.entries))) (λ sums.
    Ok (load_line n (length (all_rules job.compiled.tables)) (length job.compiled.bytes) sums))

within_range : (n : ℕ) → is_in_range n ≡ true → n ≤ 2000
within_range n is = grind (arith, nat_tests)

pub load_stated : (n : ℕ) → played_load n ≡ load_text n
load_stated n = by_range (is_in_range n) refl
  where
    by_range : (is_in : Bool) → is_in_range n ≡ is_in
        → and_then (if is_in then job_of (load_source n) (load_script n) else Err reason.Number) (line_of n)
        ≡ (if is_in then Ok (load_line n (n + 1) (122 + 28 * n) (record { events = n + 2; put = n + 2; text = 2 })) else Err reason.Number)
    by_range true is = let within : n ≤ 2000 = within_range n is in ap (λ (read : Result Job Reason). and_then read (line_of n)) (job_stated n within) ∙ line_stated n within
    by_range false is = refl

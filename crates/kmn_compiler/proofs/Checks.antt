-- Properties of a source that is accepted, and of its program.
use Rattle.std.proofs.Common.{◌≡◌, ℕ, List, None, Result, Ok, Err, ap, sym, subst}
use Rattle.kmn_base.specs.Answers.{Answers, and_then}
use Rattle.kmn_base.specs.declared.refusals.CompileError.{CompileError}
use Rattle.kmn_base.specs.declared.refusals.CompileError.TheVariants as error
use Rattle.kmn_base.specs.declared.events.Event.{Event}
use Rattle.kmn_base.specs.declared.refusals.Refusal.{Refusal}
use Rattle.rule_model.specs.declared.program.Program.{Program}
use Rattle.rule_model.specs.declared.script.Entry.{Entry}
use Rattle.rule_model.specs.Src.{src}
use Rattle.rule_model.specs.Tab.{tab}
use Rattle.rule_model.specs.Trace.{trace}
use Rattle.rule_model.specs.Transcript.{transcript}
use Rattle.kmx_format.specs.File.{file_of}
use Rattle.kmx_writer.specs.Excess.{excess}
use Rattle.compile_laws.specs.Means.{Means}
use Rattle.compile_laws.specs.Ordered.{compiled_tables}
use Rattle.kmn_parser.specs.Source.{parsed}
use Rattle.store_table.specs.First.{or_refusal}
use Rattle.rule_checker.specs.Refused.{IsRead, refused, checked}
use Rattle.compile_laws.proofs.Ordered.{program_compiles}
use Rattle.rule_checker.proofs.Named.{well_named}
use Rattle.rule_checker.proofs.Written.{tables_written}
use Rattle.rule_checker.proofs.Sources.{source_read, accepted_parts}
use Rattle.kmn_compiler.proofs.Accepted.{IsAccepted, accepted_means, accepted_steps, accepted_prints}

-- a program that was read and isn't refused is accepted
pub is_accepted : (program : Program) → IsRead program → refused program ≡ None → IsAccepted program
is_accepted program read kept = record { named = well_named program read kept; writable = tables_written program (compiled_tables program) read kept (program_compiles program) }

-- the program of a source that is accepted
pub checked_accepted : (source : List ℕ) (program : Program) → checked source ≡ Ok program → IsAccepted program
checked_accepted source program is = let parts = accepted_parts source program is in is_accepted program (source_read source program parts.0) parts.1

-- if a source is read as a program, the result of checking the program is the result of checking the source
pub checked_read : (source : List ℕ) (program : Program) (result : Result Program CompileError) → parsed source ≡ Ok program → Answers (or_refusal program (refused program)) result → Answers (checked source) result
checked_read source program result is answers =
    subst (λ (read : Result Program Refusal). Answers (and_then read (λ p. or_refusal p (refused p))) result) (sym is) answers

-- if reading a source returns an error, checking the source returns it
pub unread : (source : List ℕ) (error : CompileError) → Answers (parsed source) (Err error) → Answers {A = Program} (checked source) (Err error)
unread source (error.Refused refusal) is = ap (λ (read : Result Program Refusal). and_then read (λ p. or_refusal p (refused p))) is
unread source (error.TooLarge code size) is = absurd is
unread source error.Memory is = tt

module _ (source : List ℕ) (program : Program) (is : checked source ≡ Ok program) where
  pub checked_steps : (events : List Event) → trace (src program) events ≡ trace (tab (compiled_tables program)) events
  checked_steps events = accepted_steps program (checked_accepted source program is) events

  pub checked_prints : (entries : List Entry) → transcript (src program) entries ≡ transcript (tab (compiled_tables program)) entries
  checked_prints entries = accepted_prints program (checked_accepted source program is) entries

  pub checked_means : (picture : List ℕ) → excess (compiled_tables program) picture ≡ None → Means (file_of (compiled_tables program) picture) program
  checked_means picture within = accepted_means program (checked_accepted source program is) picture within

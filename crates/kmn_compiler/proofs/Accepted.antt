-- Properties of a program that a source is accepted with, and of the file that it compiles to.
use Rattle.std.proofs.Common.{◌≡◌, ℕ, ◌≤◌, Bool, true, false, List, [], ◌∷◌, length, Some, None, Result, Ok, Err, refl, ap, sym, ◌∙◌, subst, nat_lt, arith}
use Rattle.std.specs.Prelude.{IsErrAnd}
use Rattle.std.specs.List.{list_all}
use Rattle.std.proofs.lemmas.Bool.{and_parts}
use Rattle.std.proofs.lemmas.Bool.Decides.{nat_tests}
use Rattle.kmn_base.specs.Answers.{Answers}
use Rattle.kmn_base.specs.declared.codes.Code.{Code}
use Rattle.kmn_base.specs.declared.codes.Code.TheVariants.{C23, C24}
use Rattle.kmn_base.specs.declared.limits.TheConstants.{FILE_BYTES, PICTURE_BYTES}
use Rattle.kmn_base.specs.declared.events.Event.{Event}
use Rattle.kmn_base.specs.declared.refusals.Refusal.{Refusal}
use Rattle.kmn_base.specs.declared.refusals.CompileError.{CompileError}
use Rattle.kmn_base.specs.declared.refusals.CompileError.TheVariants as error
use Rattle.rule_model.specs.declared.program.GroupDef.{GroupDef}
use Rattle.rule_model.specs.declared.program.Program.{Program}
use Rattle.rule_model.specs.declared.script.Entry.{Entry}
use Rattle.rule_model.specs.declared.tables.Tables.{Tables}
use Rattle.rule_model.specs.OwnLines.{have_own_lines}
use Rattle.rule_model.specs.Src.{src}
use Rattle.rule_model.specs.Tab.{tab}
use Rattle.rule_model.specs.Trace.{trace}
use Rattle.rule_model.specs.Transcript.{transcript}
use Rattle.kmx_format.specs.File.{file_of}
use Rattle.kmx_format.specs.TablesOf.{tables_of, no_places}
use Rattle.kmx_format.specs.Writable.{IsWritable, IsFile}
use Rattle.kmx_writer.specs.Excess.{excess, IsExcess}
use Rattle.compile_laws.specs.Compiles.{Compiles}
use Rattle.compile_laws.specs.Law.{HasOwnLines}
use Rattle.compile_laws.specs.Means.{Means}
use Rattle.compile_laws.specs.Ordered.{compiled_tables}
use Rattle.compile_laws.specs.WellNamed.{IsWellNamed, is_known_group, is_known_rule}
use Rattle.compile_laws.proofs.Ordered.{tables_are_only_ones, program_compiles}
use Rattle.compile_laws.proofs.Whole.{meaning_kept, transcript_kept}
use Rattle.kmx_verifier.proofs.FileValid.{file_valid}
use Rattle.kmn_compiler.specs.Source.{CompilesTo}
use Rattle.kmn_compiler.specs.declared.compiling.Compiled.{Compiled}
use Rattle.kmn_compiler.proofs.Meaning.{read_again, means}
use Rattle.kmn_compiler.proofs.NoPlaces.{same_meaning}

-- whether a program meets the premise of the compiler's law and its tables can be written
pub record IsAccepted (program : Program) : Type 0 where
  pub named : IsWellNamed program
  pub writable : IsWritable (compiled_tables program)

own_lines_of : (program : Program) (groups : List GroupDef) → list_all (is_known_group program) groups ≡ true → list_all (λ (group : GroupDef). have_own_lines group.rules) groups ≡ true
own_lines_of program [] known = refl
own_lines_of program (group ∷ groups) known =
    let parts = and_parts (is_known_group program group) (list_all (is_known_group program) groups) known in
    let own = and_parts (have_own_lines group.rules) (list_all (is_known_rule program group.using_keys) group.rules) parts.0 in
    rw (own.0, own_lines_of program groups parts.1) refl

-- whether a picture and the file of tables with it are within their limits
pub record KeepsLimits (tables : Tables) (picture : List ℕ) : Type 0 where
  pub picture_size : length picture ≤ PICTURE_BYTES
  pub file_size : length (file_of tables picture) ≤ FILE_BYTES

no_excess : {R : Type 0} (passed : Code × ℕ) → Some passed ≡ None → R
no_excess passed is = absurd (cc)

keeps_limits : (tables : Tables) (picture : List ℕ) → excess tables picture ≡ None → KeepsLimits tables picture
keeps_limits tables picture within = by_picture (nat_lt PICTURE_BYTES (length picture)) refl
  where
    size : ℕ
    size = length (file_of tables picture)

    by_file : (over over_file : Bool) → over ≡ false → nat_lt PICTURE_BYTES (length picture) ≡ over → nat_lt FILE_BYTES size ≡ over_file → KeepsLimits tables picture
    by_file over true small picture_is file_is =
        no_excess (C23, size) (rw (picture_is, small, file_is) at within)
    by_file over false small picture_is file_is = record { picture_size = grind (arith, nat_tests); file_size = grind (arith, nat_tests) }

    by_picture : (over : Bool) → nat_lt PICTURE_BYTES (length picture) ≡ over → KeepsLimits tables picture
    by_picture true is =
        no_excess (C24, length picture) (rw is at within)
    by_picture false is = by_file false (nat_lt FILE_BYTES size) refl is refl

module _ (program : Program) (h : IsAccepted program) where
  own_lines : HasOwnLines program
  own_lines = own_lines_of program program.groups h.named.groups

  pub accepted_same : (tables : Tables) → Compiles program tables → tables ≡ compiled_tables program
  accepted_same tables compiles = tables_are_only_ones program tables own_lines compiles

  pub accepted_writable : (tables : Tables) → Compiles program tables → IsWritable tables
  accepted_writable tables compiles = subst IsWritable (sym (accepted_same tables compiles)) h.writable

  pub accepted_steps : (events : List Event) → trace (src program) events ≡ trace (tab (compiled_tables program)) events
  accepted_steps events = meaning_kept program (compiled_tables program) h.named (program_compiles program) events

  pub accepted_prints : (entries : List Entry) → transcript (src program) entries ≡ transcript (tab (compiled_tables program)) entries
  accepted_prints entries = transcript_kept program (compiled_tables program) h.named (program_compiles program) entries

  pub accepted_means : (picture : List ℕ) → excess (compiled_tables program) picture ≡ None → Means (file_of (compiled_tables program) picture) program
  accepted_means picture within =
      let tables : Tables = compiled_tables program in
      let limits = keeps_limits tables picture within in
      means program tables (file_of tables picture) h.named (program_compiles program) (read_again tables picture (file_of tables picture) h.writable refl limits.file_size)
      (record { tables = tables; picture = picture; writable = h.writable; picture_size = limits.picture_size; file_size = limits.file_size; is = refl })

-- if an accepted program compiles to tables and no limit is passed, their file is a result of compiling the program
pub compiled_from : (program : Program) (picture : List ℕ) (compiled : Compiled) → IsAccepted program → Compiles program compiled.tables
    → compiled.bytes ≡ file_of compiled.tables picture → IsFile compiled.bytes → excess compiled.tables picture ≡ None → CompilesTo (Ok program) picture (Ok compiled)
compiled_from program picture compiled h compiles bytes file kept =
    let same : compiled.tables ≡ compiled_tables program = accepted_same program h compiled.tables compiles in
    let writable : IsWritable compiled.tables = accepted_writable program h compiled.tables compiles in
    let read : tables_of compiled.bytes ≡ no_places compiled.tables = read_again compiled.tables picture compiled.bytes writable bytes file.file_size in (
      program,
      refl,
      record {
        compiles = compiles;
        tables = same;
        bytes = bytes;
        within = subst (λ (t : Tables). excess t picture ≡ None) same kept;
        writable = writable;
        file = file;
        valid = file_valid compiled.bytes file;
        means = means program compiled.tables compiled.bytes h.named compiles read file;
        keyboard = ap tab read ∙ same_meaning compiled.tables;
      },
    )

-- a file that isn't written is too large
pub unwritten : (program : Program) (picture : List ℕ) (tables : Tables) (e : CompileError) → IsAccepted program → Compiles program tables
    → IsExcess (excess tables picture) e → CompilesTo (Ok program) picture (Err e)
unwritten program picture tables (error.Refused refusal) h compiles passed = absurd passed
unwritten program picture tables (error.TooLarge code size) h compiles passed =
    (program, refl, subst (λ (t : Tables). excess t picture ≡ Some (code, size)) (accepted_same program h tables compiles) passed)
unwritten program picture tables error.Memory h compiles passed = tt

-- if a result is an error, and the error is a result of compiling a program, so is the result
pub answered : (program : Program) (picture : List ℕ) (e : CompileError) (result : Result Compiled CompileError) → IsErrAnd result (λ f. f ≡ e) → CompilesTo (Ok program) picture (Err e)
    → CompilesTo (Ok program) picture result
answered program picture e (Ok compiled) is says = absurd is
answered program picture e (Err f) is says = subst (λ (g : CompileError). CompilesTo (Ok program) picture (Err g)) (sym is) says

-- a source that isn't accepted is not compiled
pub unaccepted : (read : Result Program Refusal) (picture : List ℕ) (e : CompileError) → Answers read (Err e) → CompilesTo read picture (Err e)
unaccepted read picture (error.Refused refusal) is = is
unaccepted read picture (error.TooLarge code size) is = absurd is
unaccepted read picture error.Memory is = tt

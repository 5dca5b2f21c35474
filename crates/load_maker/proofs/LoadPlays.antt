-- The script of a load has the same result on its compiled tables as on its keyboard.
use Rattle.std.proofs.Common.{◌≡◌, ◌+◌, sym, ◌∙◌, ap, subst}
use Rattle.rule_model.specs.Keyboard.{Keyboard}
use Rattle.rule_model.specs.Src.{src}
use Rattle.rule_model.specs.Tab.{tab}
use Rattle.rule_model.specs.Trace.{Trace, trace}
use Rattle.rule_model.specs.declared.program.Program.{Program}
use Rattle.rule_model.specs.declared.tables.Tables.{Tables}
use Rattle.kmn_parser.specs.Programs.{program_text}
use Rattle.compile_laws.specs.Ordered.{compiled_tables}
use Rattle.compile_laws.proofs.Ordered.{program_compiles}
use Rattle.compile_laws.proofs.Whole.{meaning_kept}
use Rattle.rule_checker.specs.Refused.{IsRead}
use Rattle.rule_checker.proofs.Named.{well_named}
use Rattle.rule_checker.proofs.Sources.{source_read}
use Rattle.load_maker.specs.Files.{FilesPlay}
use Rattle.load_maker.specs.Keyboards.{load_events, load_keyboard}
use Rattle.load_maker.specs.Plays.{Plays}
use Rattle.load_maker.specs.Programs.{load_program}
use Rattle.load_maker.proofs.LoadChecks.{nothing_refused, program_parsed}
use Rattle.load_maker.proofs.LoadPrograms.{programs_mean}
use Rattle.load_maker.proofs.LoadSteps.{loads_play}

pub files_play : FilesPlay
files_play n within =
    let program : Program = load_program n in
    let tables : Tables = compiled_tables program in
    let read : IsRead program = source_read (program_text program) program (program_parsed n within) in
    let kept : trace (src program) (load_events n) ≡ trace (tab tables) (load_events n) =
    meaning_kept program tables (well_named program read (nothing_refused n within)) (program_compiles program) (load_events n) in
    let same : trace (load_keyboard n) (load_events n) ≡ trace (tab tables) (load_events n) =
    sym (ap (λ (kb : Keyboard). trace kb (load_events n)) (programs_mean n)) ∙ kept in
    subst (λ (traced : Trace). Plays (n + 2) traced) same (loads_play n)

-- If no part of a file's text is refused, what the text compiles to means what the file means.
use Rattle.std.proofs.Common.{◌≡◌, ℕ, List, None, sym, ◌∙◌}
use Rattle.kmn_base.specs.declared.events.Event.{Event}
use Rattle.rule_model.specs.declared.program.Program.{Program}
use Rattle.rule_model.specs.declared.tables.Tables.{Tables}
use Rattle.rule_model.specs.Tab.{tab}
use Rattle.rule_model.specs.Trace.{trace}
use Rattle.kmx_format.specs.TablesOf.{tables_of}
use Rattle.kmx_format.specs.Playable.{IsPlayable}
use Rattle.compile_laws.specs.Compiles.{Compiles}
use Rattle.compile_laws.proofs.Whole.{meaning_kept}
use Rattle.rule_checker.specs.Refused.{IsRead, refused}
use Rattle.rule_checker.proofs.Named.{well_named}
use Rattle.rule_checker.proofs.Sources.{source_read}
use Rattle.kmn_parser.specs.Programs.{program_text}
use Rattle.kmn_parser.proofs.Programs.{programs_read_back}
use Rattle.decompile_program.specs.Back.{back}
use Rattle.decompile_program.proofs.Whole.{decompiling_keeps_meaning}
use Rattle.kmx_decompiler.specs.Unspelled.{unspelled}
use Rattle.kmx_decompiler.specs.Laws.{HasTextNames}
use Rattle.kmx_decompiler.proofs.WrittenOut.{spelled_written_out}
use Rattle.kmx_decompiler.proofs.SpelledPrograms.{spelled_is_spelled}

-- the program is read from its text
pub is_read : (bytes : List ℕ) → IsPlayable (tables_of bytes) → HasTextNames (tables_of bytes) → unspelled bytes ≡ None → IsRead (back (tables_of bytes))
is_read bytes can texts none =
    let program : Program = back (tables_of bytes) in
    source_read (program_text program) program (programs_read_back program (spelled_is_spelled bytes can texts none))

pub keeps_meaning : (bytes : List ℕ) → IsPlayable (tables_of bytes) → HasTextNames (tables_of bytes) → unspelled bytes ≡ None → refused (back (tables_of bytes)) ≡ None
    → (tables : Tables) → Compiles (back (tables_of bytes)) tables → (events : List Event) → trace (tab tables) events ≡ trace (tab (tables_of bytes)) events
keeps_meaning bytes can texts none free tables compiles events =
    let program : Program = back (tables_of bytes) in
    sym (meaning_kept program tables (well_named program (is_read bytes can texts none) free) compiles events)
    ∙ decompiling_keeps_meaning (tables_of bytes) can (spelled_written_out bytes can none) events

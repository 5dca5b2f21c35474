-- The file of the tables that a well-named program compiles to means the program.
use Rattle.std.proofs.Common.{◌≡◌, ◌≤◌, ℕ, List, length, ap, sym, subst, ◌∙◌}
use Rattle.kmn_base.specs.declared.limits.TheConstants.{FILE_BYTES}
use Rattle.rule_model.specs.declared.program.Program.{Program}
use Rattle.rule_model.specs.declared.tables.Tables.{Tables}
use Rattle.compile_laws.specs.Compiles.{Compiles}
use Rattle.kmx_format.specs.File.{file_of}
use Rattle.compile_laws.specs.Means.{Means}
use Rattle.rule_model.specs.Tab.{tab}
use Rattle.kmx_format.specs.TablesOf.{tables_of, no_places}
use Rattle.rule_model.specs.Trace.{trace}
use Rattle.compile_laws.specs.WellNamed.{IsWellNamed}
use Rattle.kmx_format.specs.Writable.{IsWritable, IsFile}
use Rattle.kmx_format.proofs.FileLaw.{law as reading_gives_back}
use Rattle.compile_laws.proofs.Whole.{meaning_kept}
use Rattle.kmn_compiler.proofs.NoPlaces.{same_meaning}

-- what is read of the file is the tables, but for the places of keys
pub read_again : (tables : Tables) (picture bytes : List ℕ) → IsWritable tables → bytes ≡ file_of tables picture → length bytes ≤ FILE_BYTES → tables_of bytes ≡ no_places tables
read_again tables picture bytes writable is size =
    let short : length (file_of tables picture) ≤ FILE_BYTES = subst (λ (us : List ℕ). length us ≤ FILE_BYTES) is size in
    ap tables_of is ∙ reading_gives_back tables picture writable short

pub means : (program : Program) (tables : Tables) (bytes : List ℕ) → IsWellNamed program → Compiles program tables → tables_of bytes ≡ no_places tables → IsFile bytes → Means bytes program
means program tables bytes named compiles read file = record {
  file = file;
  same_steps = λ events. ap (λ (t : Tables). trace (tab t) events) read ∙ ap (λ keyboard. trace keyboard events) (same_meaning tables) ∙ sym (meaning_kept program tables named compiles events);
}

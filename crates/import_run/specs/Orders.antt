-- The order of work of an import.
use Rattle.std.specs.Prelude.{ℕ, List, Some, Result, Err}
use Rattle.kmn_base.specs.declared.codes.Code.TheVariants.{L05}
use Rattle.kmn_import.specs.Import.{imported}
use Rattle.kmn_import.specs.declared.change.Imported.{Imported}
use Rattle.keyman_words.specs.declared.reason.Reason.{Reason}
use Rattle.keyman_words.specs.declared.status.Status.TheVariants as status
use Rattle.keyman_run.specs.Endings.{Ending}
use Rattle.keyman_run.specs.Inputs.{by_line}
use Rattle.keyman_run.specs.Steps.{at_line_one}
use Rattle.keyman_run.specs.Work.{Reading, Work, given, and_then}
use Rattle.keyman_run.specs.Work.Reading.{Bytes, Over}
use Rattle.keyman_run.specs.Work.Work.{Give, Read}
use Rattle.import_run.specs.declared.reading.TheConstants.{WIDE_TEXT_BYTES}
use Rattle.import_run.specs.Printed.{imported_text}

-- what the bytes of a source are imported as, or the refusal; the refusal L05 if they are over the size limit
abbrev pub import_of : Reading → Result Imported Reason
import_of (Bytes bytes) = by_line (imported bytes)
import_of (Over size) = Err (at_line_one L05)

-- read a source and import it
abbrev pub source_work : (source : List ℕ) → Work Imported
source_work source = Read source WIDE_TEXT_BYTES (λ reading. given (import_of reading))

-- an import writes the imported source and prints its changes
abbrev pub import_ending : List ℕ → Imported → Ending
import_ending target new = record { status = status.Done; file = Some (target, new.text); printed = imported_text new }

-- `SOURCE TARGET`: read the source, import it, write the imported source, print its changes
abbrev pub import_work : (source target : List ℕ) → Work Ending
import_work source target = and_then (source_work source) (λ new. Give (import_ending target new))

-- Files over the limit.
use Rattle.std.proofs.Common.{◌≡◌, ℕ, ◌<◌, true, IsTrue, List, length, Some, Err, refl, arith}
use Rattle.std.specs.Prelude.{nat_lt}
use Rattle.std.proofs.lemmas.Bool.Decides.{nat_tests}
use Rattle.kmn_base.specs.declared.codes.Code.TheVariants.{V15}
use Rattle.kmn_base.specs.declared.limits.TheConstants.{FILE_BYTES}
use Rattle.kmn_outside.specs.Outside.{ReadCounts, Reads}
use Rattle.kmn_outside.specs.declared.traits.ReadError.{ReadError}
use Rattle.kmn_outside.specs.declared.traits.ReadError.TheVariants as read
use Rattle.kmx_verifier.specs.FaultOf.{fault_of, size_fault}
use Rattle.export_run.specs.declared.reading.ExportReason.TheVariants.{File}
use Rattle.export_run.specs.declared.reading.ExportStop.TheVariants as stop
use Rattle.keyman_words.specs.Seen.{FolderView}
use Rattle.export_run.specs.Reads.{Gives}

-- if a file is over the limit, its first fault is V15 at 0
long_fault : (bytes : List ℕ) → FILE_BYTES < length bytes → fault_of bytes ≡ Some (record { code = V15; at = 0; unit = 0 })
unfolding fault_of size_fault
long_fault bytes long =
    let over : nat_lt FILE_BYTES (length bytes) ≡ true = grind (arith, nat_tests) in
    rw over refl

-- so a file over the limit is refused for this fault, although its bytes weren't read
pub gives_long : {F : Type 0} (file : List ℕ) (folders : FolderView F) (folder after : F) (error : ReadError) (size : ℕ) → error ≡ read.Over size
    → ReadCounts (folders.faults folder) (folders.faults after) (Err error) → folders.told after ≡ folders.told folder
    → (IsTrue (folders.told folder) → Reads (folders.files folder) (folders.files after) (folders.calls folder) (folders.calls after) file FILE_BYTES (Err error))
    → Gives file folders folder after (Err (stop.Refused (File (record { code = V15; at = 0; unit = 0 }))))
gives_long file folders folder after read.Failed size is counts told reads = absurd (cc)
gives_long file folders folder after read.Memory size is counts told reads = absurd (cc)
gives_long file folders folder after (read.Over n) size is counts told reads = record {
  counts = counts;
  told = told;
  gives = λ told_folder.
      let answer = reads told_folder in
      let long = answer.1.0 in
      (record { bytes = long.0; is = long.1; reason = long_fault long.0 long.2 }, record { calls = answer.1.2; files = answer.0 });
}

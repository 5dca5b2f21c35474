-- What a run leaves after the file was exported.
use Rattle.std.proofs.Common.{◌≡◌, ℕ, true, false, IsTrue, List, [], ◌∷◌, ◌++◌, Some, Ok, Err, inl, inr, refl, sym, ap, subst, ◌∙◌, append_assoc}
use Rattle.kmn_outside.specs.Outside.{WriteCounts, Writes, Rose, call_of}
use Rattle.kmn_outside.specs.declared.traits.WriteError.{WriteError}
use Rattle.kmn_outside.specs.declared.traits.WriteError.TheVariants as write
use Rattle.keyman_words.specs.declared.status.Status.{Status}
use Rattle.keyman_words.specs.declared.status.Status.TheVariants as status
use Rattle.keyman_words.specs.Seen.{FolderView, SinkView, seen_folder}
use Rattle.keyman_words.specs.Tells.{Tells, write_status}
use Rattle.export_run.specs.declared.reading.Export.{Export}
use Rattle.export_run.specs.Lines.{exported_text}
use Rattle.export_run.specs.Reads.{Gives, HasExport, HasRead}
use Rattle.export_run.specs.Runs.{Exports, HasExported, HasFailedToWrite}

module _ {F S : Type 0} (file target : List ℕ) (folders : FolderView F) (folder middle after : F) (sinks : SinkView S) (export : Export) (bytes : List ℕ)
    (gives : Gives file folders folder middle (Ok export)) (are : bytes ≡ export.bytes) (told : folders.told after ≡ folders.told middle) where
  -- the file has the export and was read, if the folder shows it
  seen : IsTrue (folders.told folder) → HasExport (folders.files folder) file export × HasRead file (seen_folder folders folder) (seen_folder folders middle)
  seen shown = gives.gives shown

  -- the folder still shows its contents after the read
  still : IsTrue (folders.told folder) → IsTrue (folders.told middle)
  still shown = subst IsTrue (sym gives.told) shown

  -- if the export is written, the file was exported
  has_exported : (IsTrue (folders.told middle) → Writes (folders.files middle) (folders.files after) (folders.calls middle) (folders.calls after) target bytes (Ok (tt {0})))
      → IsTrue (folders.told folder) → HasExported file target export (seen_folder folders folder) (seen_folder folders after)
  has_exported writes shown =
      let written = writes (still shown) in
      let read = seen shown in
      record {
        export = read.0;
        calls = written.2 ∙ ap (λ calls. calls ++ call_of target true false ∷ []) read.1.calls
            ∙ append_assoc (folders.calls folder) (call_of file false false ∷ []) (call_of target true false ∷ []);
        others = λ other different. written.0 other different ∙ read.1.files other;
        written = written.1 ∙ ap (λ list. Some list) are;
      }

  -- if the export is written, the run leaves what its printing leaves
  pub exported_left : (out out_after : S) (how : Status) → WriteCounts {X = Unit {0}} (folders.faults middle) (folders.faults after) (Ok (tt {0}))
      → (IsTrue (folders.told middle) → Writes (folders.files middle) (folders.files after) (folders.calls middle) (folders.calls after) target bytes (Ok (tt {0})))
      → Tells status.Done (exported_text export) sinks out out_after how → Exports file target folders folder after sinks out out_after how
  exported_left out out_after status.Done counts writes tells = record {
    counts = (counts ∙ gives.counts, tells.counts.1);
    told = (told ∙ gives.told, tells.told);
    leaves = λ shown. (export, has_exported writes shown, tells.prints);
  }
  exported_left out out_after status.WriteFault counts writes tells = record {
    counts = inr (counts ∙ gives.counts, tells.counts);
    told = (told ∙ gives.told, tells.told);
    leaves = λ shown. inr (tells.counts, inl (export, has_exported writes shown, tells.prints));
  }
  exported_left out out_after status.Memory counts writes tells = record {
    counts = (counts ∙ gives.counts, tells.counts);
    told = (told ∙ gives.told, tells.told);
    leaves = λ shown. inr (inl (export, has_exported writes shown, tells.prints));
  }
  exported_left out out_after status.Words counts writes tells = absurd tells.counts
  exported_left out out_after status.ReadFault counts writes tells = absurd tells.counts
  exported_left out out_after status.Refused counts writes tells = let other : status.Refused ≡ status.Done = tells.counts.0 in absurd (cc)
  exported_left out out_after status.ExpectFailed counts writes tells = let other : status.ExpectFailed ≡ status.Done = tells.counts.0 in absurd (cc)

  -- if the export is not written, the run prints nothing
  pub unwritten_left : (out : S) (error : WriteError) (how : Status) → how ≡ write_status error → WriteCounts {X = Unit {0}} (folders.faults middle) (folders.faults after) (Err error)
      → (IsTrue (folders.told middle) → Writes (folders.files middle) (folders.files after) (folders.calls middle) (folders.calls after) target bytes (Err error))
      → Exports file target folders folder after sinks out out how
  unwritten_left out write.Failed how is counts writes = subst (λ (s : Status). Exports file target folders folder after sinks out out s) (sym is) (
      let rose : Rose (folders.faults folder) (folders.faults after) = subst (λ (n : ℕ). Rose n (folders.faults after)) gives.counts counts in
      record {
        counts = inl (rose, refl);
        told = (told ∙ gives.told, refl);
        leaves = λ shown.
            let failed = writes (still shown) in
            let read = seen shown in
            let has : HasFailedToWrite file target export (seen_folder folders folder) (seen_folder folders after) = record {
              export = read.0;
              calls = failed.1 ∙ ap (λ calls. calls ++ call_of target true true ∷ []) read.1.calls
                  ∙ append_assoc (folders.calls folder) (call_of file false false ∷ []) (call_of target true true ∷ []);
              others = λ other different. failed.0 other different ∙ read.1.files other;
            } in
            inl (rose, (export, has, λ _. refl));
      })
  unwritten_left out write.Memory how is counts writes = subst (λ (s : Status). Exports file target folders folder after sinks out out s) (sym is) (
      record {
        counts = (counts ∙ gives.counts, refl);
        told = (told ∙ gives.told, refl);
        leaves = λ shown.
            let failed = writes (still shown) in
            let read = seen shown in
            inl (record { calls = inr (failed.1 ∙ read.1.calls); files = λ name. failed.0 name ∙ read.1.files name }, λ _. refl);
      })

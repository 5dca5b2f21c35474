-- The results of the exporter as results of a run.
use Rattle.std.proofs.Common.{◌≡◌, List, ℕ, Some, Result, Ok, Err, sym, subst, ◌∙◌}
use Rattle.std.proofs.lemmas.Option.{none-some}
use Rattle.std.specs.Result.{IsErrAnd}
use Rattle.kmx_verifier.specs.FaultOf.{IsRefusal, IsValid, fault_of}
use Rattle.kmx_verifier.specs.declared.faults.VerifyError.{VerifyError}
use Rattle.kmx_verifier.specs.declared.faults.VerifyError.TheVariants as verify
use Rattle.core_export.specs.Export.{Exports, IsExportError}
use Rattle.core_export.proofs.ConvertedExports.{exports_are_safe}
use Rattle.core_constructs.specs.declared.construct.Told.{Told}
use Rattle.core_export.specs.declared.errors.ExportError.{ExportError}
use Rattle.core_export.specs.declared.errors.ExportError.TheVariants as error
use Rattle.export_run.specs.declared.reading.ExportReason.TheVariants.{File, SavesTwice, Nameless, Unreadable, Overfull, NoZeroUnit, Overlapping}
use Rattle.export_run.specs.declared.reading.Export.{Export}
use Rattle.export_run.specs.declared.reading.ExportStop.{ExportStop}
use Rattle.export_run.specs.declared.reading.ExportStop.TheVariants as stop
use Rattle.export_run.specs.Reads.{Answers, Differs, States, export_stop, verify_stop}

-- if the exporter returns an error, it is the reason why the file isn't exported
pub stop_answered : (bytes : List ℕ) (why : ExportError) → IsExportError bytes why → Answers bytes (Err (export_stop why))
stop_answered bytes (error.SavesTwice line) h = h
stop_answered bytes error.Nameless h = h
stop_answered bytes (error.Unreadable line) h = h
stop_answered bytes error.Overfull h = h
stop_answered bytes error.NoZeroUnit h = h
stop_answered bytes error.Overlapping h = h
stop_answered bytes error.Memory h = h

-- if bytes are a valid file, the result for the file is the result for the bytes
pub states_answered : (bytes : List ℕ) (result : Result Export ExportStop) → IsValid bytes → Answers bytes result → States bytes result
states_answered bytes (Ok out) valid h = (valid, h)
states_answered bytes (Err (stop.Refused (File fault))) valid h = absurd h
states_answered bytes (Err (stop.Refused (SavesTwice line))) valid h = (valid, h)
states_answered bytes (Err (stop.Refused Nameless)) valid h = (valid, h)
states_answered bytes (Err (stop.Refused (Unreadable line))) valid h = (valid, h)
states_answered bytes (Err (stop.Refused Overfull)) valid h = (valid, h)
states_answered bytes (Err (stop.Refused NoZeroUnit)) valid h = (valid, h)
states_answered bytes (Err (stop.Refused Overlapping)) valid h = (valid, h)
states_answered bytes (Err stop.ReadFault) valid h = absurd h
states_answered bytes (Err stop.Memory) valid h = h

-- if the verifier refuses bytes, its fault is the reason why the bytes have no export
pub fault_stated : (bytes : List ℕ) (error : VerifyError) → IsRefusal error (λ fault. fault_of bytes ≡ Some fault) → States bytes (Err (verify_stop error))
fault_stated bytes (verify.Refused fault) h = h
fault_stated bytes verify.Memory h = h

-- if a result is a stop, and this stop is the specified result, the result is the specified one
pub answers_handed : (bytes : List ℕ) (why : ExportStop) (result : Result Export ExportStop) → IsErrAnd result (λ given. given ≡ why) → Answers bytes (Err why) → Answers bytes result
answers_handed bytes why (Ok out) is answers = absurd is
answers_handed bytes why (Err given) is answers = subst (λ (s : ExportStop). Answers bytes (Err s)) (sym is) answers

pub states_handed : (bytes : List ℕ) (why : ExportStop) (result : Result Export ExportStop) → IsErrAnd result (λ given. given ≡ why) → States bytes (Err why) → States bytes result
states_handed bytes why (Ok out) is states = absurd is
states_handed bytes why (Err given) is states = subst (λ (s : ExportStop). States bytes (Err s)) (sym is) states

-- an exported file is valid, so a run stops there only if an allocation fails
export_differs : (bytes out : List ℕ) (why : ExportStop) → Exports bytes (Ok out) → Differs out (Err why) → Answers bytes (Err why)
export_differs bytes out (stop.Refused (File fault)) exports h = absurd (none-some fault (sym (exports_are_safe bytes out exports).valid ∙ h))
export_differs bytes out (stop.Refused (SavesTwice line)) exports h = absurd h
export_differs bytes out (stop.Refused Nameless) exports h = absurd h
export_differs bytes out (stop.Refused (Unreadable line)) exports h = absurd h
export_differs bytes out (stop.Refused Overfull) exports h = absurd h
export_differs bytes out (stop.Refused NoZeroUnit) exports h = absurd h
export_differs bytes out (stop.Refused Overlapping) exports h = absurd h
export_differs bytes out stop.ReadFault exports h = absurd h
export_differs bytes out stop.Memory exports h = tt

pub differs_answered : (bytes out read : List ℕ) (why : ExportStop) → read ≡ out → Exports bytes (Ok out) → Differs read (Err why) → Answers bytes (Err why)
differs_answered bytes out read why is exports h = export_differs bytes out why exports (subst (λ (list : List ℕ). Differs list (Err why)) is h)

-- if the verifier refuses bytes, its fault is why the run stops
pub fault_differs : (bytes : List ℕ) (error : VerifyError) → IsRefusal error (λ fault. fault_of bytes ≡ Some fault) → Differs bytes (Err (verify_stop error))
fault_differs bytes (verify.Refused fault) h = h
fault_differs bytes verify.Memory h = tt

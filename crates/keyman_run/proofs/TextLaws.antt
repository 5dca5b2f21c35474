-- The results of steps that read no file, as work; the source that a file decompiles to, and its meaning.
use Rattle.std.proofs.Common.{◌≡◌, ℕ, ◌+◌, Bool, true, false, nat_lt, if◌then◌else◌, List, length, Option, Some, None, Result, Ok, Err, refl, sym, ap, ◌∙◌, subst}
use Rattle.std.specs.Prelude.{IfOk, IsSomeAnd, option_and_then}
use Rattle.kmn_base.proofs.SmallBytes.{AreBytes}
use Rattle.kmn_base.specs.declared.limits.TheConstants.{FILE_BYTES}
use Rattle.kmn_outside.specs.Outside.{Files}
use Rattle.kmx_format.specs.TablesOf.{tables_of}
use Rattle.kmx_verifier.specs.declared.faults.VerifyError.{VerifyError}
use Rattle.kmx_verifier.specs.declared.faults.VerifyError.TheVariants as verify
use Rattle.kmx_verifier.specs.FaultOf.{fault_of, IsRefusal}
use Rattle.kmx_verifier.proofs.Playing.{valid_playable}
use Rattle.rule_model.specs.declared.tables.Tables.{Tables}
use Rattle.kmn_parser.specs.Programs.{program_text}
use Rattle.decompile_program.specs.Back.{back}
use Rattle.kmx_decompiler.specs.Unspelled.{unspelled}
use Rattle.kmx_decompiler.proofs.Texts.{texts_compile}
use Rattle.keyman_run.specs.declared.preparing.Stop.{Stop}
use Rattle.keyman_run.specs.declared.preparing.Stop.TheVariants as stop
use Rattle.keyman_words.specs.declared.reason.Reason.{Reason}
use Rattle.keyman_run.specs.Inputs.{IsTextOf, bytes_of, tables_of_file, unless_faulty}
use Rattle.keyman_run.specs.Orders.{bytes_work}
use Rattle.keyman_run.specs.Run.{TextMeans}
use Rattle.keyman_words.specs.Seen.{FolderView}
use Rattle.keyman_run.specs.Steps.{Gives, States, verify_stop}
use Rattle.keyman_run.specs.Work.{given, reading_of, comes_to}
use Rattle.keyman_run.specs.Work.Reading.{Bytes, Over}
use Rattle.keyman_run.proofs.RunLaws.{gives_value, gives_refused, gives_no_memory}

-- if a result is the specified one for a step that reads no file, it is the result of the step's work
pub gives_stated : {F A B : Type 0} (seen : A → B) (stated : Result B Reason) (folders : FolderView F) (folder : F) (result : Result A Stop)
    → States seen stated result → Gives seen (given stated) folders folder folder result
gives_stated {F} {A} {B} seen stated folders folder (Ok value) is =
    subst (λ (read : Result B Reason). Gives seen (given read) folders folder folder (Ok value)) (sym is) (gives_value seen folders folder value)
gives_stated {F} {A} {B} seen stated folders folder (Err (stop.Refused why)) is =
    subst (λ (read : Result B Reason). Gives {A = A} seen (given read) folders folder folder (Err (stop.Refused why))) (sym is) (gives_refused seen folders folder why)
gives_stated seen stated folders folder (Err stop.ReadFault) is = absurd is
gives_stated seen stated folders folder (Err stop.Memory) is = gives_no_memory seen (given stated) folders folder

-- if the opening of bytes stops, its reason is the specified result
pub unread_states : {A : Type 0} (seen : A → Tables) (bytes : List ℕ) (error : VerifyError) → IsRefusal error (λ fault. fault_of bytes ≡ Some fault) → States {A = A} seen (tables_of_file bytes) (Err (verify_stop error))
unread_states seen bytes (verify.Refused fault) is = ap (unless_faulty (tables_of bytes)) is
unread_states seen bytes verify.Memory is = tt

-- if bytes are a valid file, the text that the decompiler returns is their text
pub text_has : (bytes file text : List ℕ) → AreBytes bytes → fault_of bytes ≡ None → file ≡ bytes → unspelled file ≡ None → text ≡ program_text (back (tables_of file)) → IsTextOf bytes text
text_has bytes file text small valid same spelled is = record {
  has = record { small = small; playable = valid_playable bytes small valid; spelled = ap unspelled (sym same) ∙ spelled };
  is = is ∙ ap (λ (b : List ℕ). program_text (back (tables_of b))) same;
}

-- the bytes that were read are the bytes of the file
bytes_found : (files : Files) (name bytes : List ℕ) → comes_to files (bytes_work name) ≡ Some (Ok bytes) → files name ≡ Some bytes
bytes_found files name bytes come = by_found (files name) come
  where
    by_test : (found : List ℕ) (over : Bool) → comes_to files (given (bytes_of (if over then Over (FILE_BYTES + 1) else Bytes found))) ≡ Some (Ok bytes) → Some found ≡ Some bytes
    by_test found true come = absurd (cc)
    by_test found false come = cc

    by_found : (found : Option (List ℕ)) → option_and_then (λ b. comes_to files (given (bytes_of (reading_of FILE_BYTES b)))) found ≡ Some (Ok bytes) → found ≡ Some bytes
    by_found None come = absurd (cc)
    by_found (Some found) come = by_test found (nat_lt FILE_BYTES (length found)) come

-- so the text of the bytes that were read is the text of the file
pub text_found : (files : Files) (name slice bytes : List ℕ) (result : Result (List ℕ) Stop) → comes_to files (bytes_work name) ≡ Some (Ok bytes) → slice ≡ bytes
    → IfOk result (λ text. IsTextOf slice text) → IfOk result (λ text. IsSomeAnd (files name) (λ found. IsTextOf found text))
text_found files name slice bytes (Ok text) come same is =
    let found : files name ≡ Some bytes = bytes_found files name bytes come in
    rw found (subst (λ (b : List ℕ). IsTextOf b text) same is)
text_found files name slice bytes (Err s) come same is = tt

-- if the text of a file is written as a source, it means the file
pub text_means : (before after : Files) (file source text slice : List ℕ) → IsSomeAnd (before file) (λ bytes. IsTextOf bytes text) → slice ≡ text → after source ≡ Some slice → TextMeans before after file source
text_means before after file source text slice has same stands = by_found (before file) refl has
  where
    by_found : (found : Option (List ℕ)) → before file ≡ found → IsSomeAnd found (λ bytes. IsTextOf bytes text) → TextMeans before after file source
    by_found None at none = absurd none
    by_found (Some bytes) at of =
        let is : after source ≡ Some _ = stands ∙ ap Some (same ∙ of.is) in
        record { bytes = bytes; is = at; means = rw is (texts_compile bytes of.has) }

-- A run that prints what a check finds, or why it stops.
use Rattle.std.proofs.Common.{◌≡◌, ℕ, Bool, true, false, if◌then◌else◌, List, Option, Result, Ok, Err, refl, sym, ◌∙◌, subst}
use Rattle.std.specs.Prelude.{IfOk}
use Rattle.name_warnings.specs.declared.warning.Warning.{Warning}
use Rattle.keyman_words.specs.Seen.{FolderView, SinkView}
use Rattle.keyman_words.specs.Tells.{PrintsResult, Tells}
use Rattle.keyman_words.specs.declared.status.Status.{Status}
use Rattle.keyman_words.specs.declared.status.Status.TheVariants as status
use Rattle.keyman_words.proofs.Printed.{tells_made}
use Rattle.keyman_run.specs.Run.{Does}
use Rattle.keyman_run.specs.Steps.{Gives, itself}
use Rattle.keyman_run.specs.declared.preparing.Stop.{Stop}
use Rattle.check_run.specs.declared.findings.Findings.{Findings}
use Rattle.check_run.specs.declared.findings.Findings.TheVariants as findings
use Rattle.check_run.specs.declared.findings.InputFindings.{InputFindings}
use Rattle.check_run.specs.Inputs.{is_sound}
use Rattle.check_run.specs.Orders.{check_work, findings_work}
use Rattle.check_run.specs.Printed.{PrintsStopped, accepted_text, check_ending, check_status, check_text, input_status, name_of, stopped_ending}
use Rattle.check_run.proofs.Concluding.{concludes_told, concludes_stopped}

-- the ending of a check is printed
abbrev pub IsPrinted : {S : Type 0} → (file : List ℕ) → (layout keys : Option (List ℕ)) → Findings → SinkView S → S → S → Status → Type 0
IsPrinted file layout keys found sinks out out_after how = Tells (check_status found) (check_text file layout keys found) sinks out out_after how

by_soundness : {S : Type 0} (text : List ℕ) (inputs : InputFindings) (sound : Bool) (sinks : SinkView S) (out out_after : S) (how : Status) → sound ≡ is_sound inputs
    → Tells (if sound then status.Done else status.Refused) text sinks out out_after how → Tells (input_status inputs) text sinks out out_after how
unfolding input_status
by_soundness text inputs sound sinks out out_after how is tells =
    subst (λ (b : Bool). Tells (if b then status.Done else status.Refused) text sinks out out_after how) is tells

-- if neither the layout nor the script is refused, the run prints the text and ends well
pub sound_tells : {S E : Type 0} (text : List ℕ) (inputs : InputFindings) (sound : Bool) (made : Result (List ℕ) E) (sinks : SinkView S) (out out_after : S) (how : Status)
    → sound ≡ is_sound inputs → sound ≡ true → PrintsResult status.Done made sinks out out_after how → IfOk made (λ line. line ≡ text)
    → Tells (input_status inputs) text sinks out out_after how
sound_tells text inputs sound made sinks out out_after how is told prints is_text =
    by_soundness text inputs true sinks out out_after how (sym told ∙ is) (tells_made status.Done text made sinks out out_after how prints is_text)

-- if one of them is refused, the run prints the text and ends with the status of a refusal
pub broken_tells : {S E : Type 0} (text : List ℕ) (inputs : InputFindings) (sound : Bool) (made : Result (List ℕ) E) (sinks : SinkView S) (out out_after : S) (how : Status)
    → sound ≡ is_sound inputs → sound ≡ false → PrintsResult status.Refused made sinks out out_after how → IfOk made (λ line. line ≡ text)
    → Tells (input_status inputs) text sinks out out_after how
broken_tells text inputs sound made sinks out out_after how is told prints is_text =
    by_soundness text inputs false sinks out out_after how (sym told ∙ is) (tells_made status.Refused text made sinks out out_after how prints is_text)

-- the text of a source that is not refused is the text of the check
pub accepted_tells : {S : Type 0} (source layout_name keys_name : List ℕ) (layout keys : Option (List ℕ)) (listed warnings : List Warning) (inputs : InputFindings) (sinks : SinkView S) (out out_after : S) (how : Status)
    → layout_name ≡ name_of layout → keys_name ≡ name_of keys → listed ≡ warnings → Tells (input_status inputs) (accepted_text source layout_name keys_name listed inputs) sinks out out_after how
    → IsPrinted source layout keys (findings.Accepted warnings inputs) sinks out out_after how
accepted_tells source layout_name keys_name layout keys listed warnings inputs sinks out out_after how same_layout same_keys same tells =
    subst (λ (text : List ℕ). Tells (input_status inputs) text sinks out out_after how) (λ i. accepted_text source (same_layout i) (same_keys i) (same i) inputs) tells

module _ {F S : Type 0} (file source : List ℕ) (layout keys : Option (List ℕ)) (folders : FolderView F) (folder after : F) (sinks : SinkView S) (out out_after : S) (how : Status) (same : file ≡ source) where
  -- a run that prints what it finds
  pub checks_printed : (found : Findings) → Gives itself (findings_work source layout keys) folders folder after (Ok found)
      → IsPrinted file layout keys found sinks out out_after how → Does (check_work source layout keys) folders folder after sinks out out_after how
  checks_printed found gives tells =
      concludes_told (check_ending source layout keys) (stopped_ending source) (findings_work source layout keys) folders folder after sinks out out_after how (Ok found) refl gives.counts gives.told gives.gives
      (subst (λ (name : List ℕ). IsPrinted name layout keys found sinks out out_after how) same tells)

  -- a run that stops and prints its reason
  pub checks_stopped : (s : Stop) → Gives itself (findings_work source layout keys) folders folder after (Err s) → PrintsStopped file s sinks out out_after how
      → Does (check_work source layout keys) folders folder after sinks out out_after how
  checks_stopped s gives tells =
      concludes_stopped (check_ending source layout keys) source (findings_work source layout keys) folders folder after sinks out out_after how s gives
      (subst (λ (name : List ℕ). PrintsStopped name s sinks out out_after how) same tells)

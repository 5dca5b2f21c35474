-- What is found in the bytes of a source, and how a check of them continues.
use Rattle.std.proofs.Common.{◌≡◌, ℕ, ◌<◌, ◌≤◌, List, [], ◌∷◌, length, get_or, Option, Result, Ok, Err, refl, sym, ap, ◌∙◌, subst, arith}
use Rattle.kmn_base.specs.declared.refusals.Refusal.{Refusal}
use Rattle.rule_model.specs.declared.program.Program.{Program}
use Rattle.kmn_compiler.specs.declared.compiling.Compiled.{Compiled}
use Rattle.source_faults.specs.Faults.{faults}
use Rattle.name_warnings.specs.declared.warning.Warning.{Warning}
use Rattle.keyman_words.specs.Seen.{FolderView}
use Rattle.keyman_words.specs.declared.reason.Reason.{Reason}
use Rattle.keyman_run.specs.Steps.{Gives, States, itself}
use Rattle.keyman_run.specs.Work.{given}
use Rattle.keyman_run.specs.declared.preparing.Stop.{Stop}
use Rattle.keyman_run.specs.declared.preparing.Stop.TheVariants as stop
use Rattle.keyman_run.proofs.RunLaws.{gives_as, gives_no_memory, gives_refused, gives_value}
use Rattle.check_run.specs.declared.findings.Findings.{Findings}
use Rattle.check_run.specs.declared.findings.Findings.TheVariants as findings
use Rattle.check_run.specs.declared.findings.InputFindings.{InputFindings}
use Rattle.check_run.specs.Orders.{bytes_check_work, file_check_work, findings_given, further_work, warnings_in}
use Rattle.check_run.specs.Shown.{refused_lines}

none_if_short : (refusals : List Refusal) → length refusals < 1 → refusals ≡ []
none_if_short [] few = refl
none_if_short (found ∷ refusals) few = absurd (omega (arith, few))

module _ {F : Type 0} (source : List ℕ) (layout keys : Option (List ℕ)) (bytes : List ℕ) (folders : FolderView F) (folder : F) (refusals : List Refusal) (is : refusals ≡ faults bytes) where
  -- without a refused line, the source is compiled
  pub checks_file : (after : F) (result : Result Findings Stop) → length refusals < 1 → Gives itself (file_check_work source layout keys bytes) folders folder after result
      → Gives itself (bytes_check_work source layout keys bytes) folders folder after result
  checks_file after result few gives =
      gives_as itself (file_check_work source layout keys bytes) (bytes_check_work source layout keys bytes) folders folder after result
      (ap (further_work source layout keys bytes) (sym (none_if_short refusals few) ∙ is)) gives

  more_given : (other : Refusal) (found : List Refusal) → 1 ≤ length found
      → Gives itself (further_work source layout keys bytes found) folders folder folder (Ok (refused_lines bytes (get_or found 0 other) found))
  more_given other [] some = absurd (omega (arith, some))
  more_given other (first ∷ others) some = gives_value itself folders folder (refused_lines bytes first (first ∷ others))

  -- with a refused line, the refusals are the result, and the first of them is the one that compilation reports
  pub refuses_lines : (listed : List Refusal) (other : Refusal) (found : Findings) → listed ≡ refusals → 1 ≤ length listed
      → found ≡ refused_lines bytes (get_or listed 0 other) refusals → Gives itself (bytes_check_work source layout keys bytes) folders folder folder (Ok found)
  refuses_lines listed other found same some is_found =
      gives_as itself (further_work source layout keys bytes refusals) (bytes_check_work source layout keys bytes) folders folder folder (Ok found)
      (ap (further_work source layout keys bytes) is)
      (subst (λ (value : Findings). Gives itself (further_work source layout keys bytes refusals) folders folder folder (Ok value)) (sym is_found)
      (subst (λ (list : List Refusal). Gives itself (further_work source layout keys bytes refusals) folders folder folder (Ok (refused_lines bytes (get_or list 0 other) refusals))) (sym same)
      (more_given other refusals (subst (λ (list : List Refusal). 1 ≤ length list) same some))))

-- the warnings of a program and its tables, and what is found in its inputs, are what is found
pub warnings_given : {F : Type 0} (bytes : List ℕ) (program : Program) (compiled : Compiled) (inputs : InputFindings) (folders : FolderView F) (folder : F) (found : List Warning)
    → found ≡ warnings_in bytes program compiled.tables
    → Gives itself (findings_given bytes program compiled inputs) folders folder folder (Ok (findings.Accepted found inputs))
warnings_given bytes program compiled inputs folders folder found is =
    subst (λ (list : List Warning). Gives itself (findings_given bytes program compiled inputs) folders folder folder (Ok (findings.Accepted list inputs))) (sym is)
    (gives_value itself folders folder (findings.Accepted (warnings_in bytes program compiled.tables) inputs))

-- the specified result of a step that makes no call is the result of its work
pub states_given : {F A : Type 0} (read : Result A Reason) (folders : FolderView F) (folder : F) (result : Result A Stop) → States itself read result
    → Gives itself (given read) folders folder folder result
states_given {F} {A} read folders folder (Ok value) is =
    subst (λ (r : Result A Reason). Gives itself (given r) folders folder folder (Ok value)) (sym is) (gives_value itself folders folder value)
states_given {F} {A} read folders folder (Err (stop.Refused why)) is =
    subst (λ (r : Result A Reason). Gives {A = A} itself (given r) folders folder folder (Err (stop.Refused why))) (sym is) (gives_refused itself folders folder why)
states_given read folders folder (Err stop.ReadFault) is = absurd is
states_given read folders folder (Err stop.Memory) is = gives_no_memory itself (given read) folders folder

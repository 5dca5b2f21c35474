-- An imported text is accepted, and a refusal is a refusal of the compiler.
use Rattle.std.proofs.Common.{◌≡◌, ℕ, Bool, true, false, not, List, length, Option, Some, None, Result, Ok, Err, refl, ap, subst, if◌then◌else◌, inl, inr}
use Rattle.std.specs.Prelude.{◌⊎◌, nat_lt, ◌||◌}
use Rattle.std.specs.Str.{is_utf8}
use Rattle.kmn_base.specs.declared.limits.TheConstants.{TEXT_BYTES}
use Rattle.kmn_base.specs.declared.refusals.Refusal.{Refusal}
use Rattle.rule_model.specs.declared.program.Program.{Program}
use Rattle.rule_checker.specs.Refused.{checked}
use Rattle.kmn_import.specs.declared.change.Imported.{Imported}
use Rattle.kmn_import.specs.Utf16.{marked_text}
use Rattle.kmn_import.specs.Import.{rewritten_source, converted, if_accepted, text_imported, refused_imported, source_imported, imported}
use Rattle.kmn_import.specs.Laws.{AcceptedSourcesAreKept, ImportedSourcesAreAccepted, ImportedSourcesAreKept, RefusalsAreTheCompilers}

pub accepted_sources_are_kept : AcceptedSourcesAreKept
unfolding imported
accepted_sources_are_kept bytes program e = ap (source_imported bytes) e

-- a result is some accepted text, or the refusal of a text that may be refused so
abbrev IsAccepted : Imported → Type 0
IsAccepted new = (program : Program) × (checked new.text ≡ Ok program)

Answers : (List ℕ → Type 0) → Result Imported Refusal → Type 0
Answers from (Ok new) = IsAccepted new
Answers from (Err refusal) = (text : List ℕ) × ((checked text ≡ Err refusal) × from text)

module _ (from : List ℕ → Type 0) where
  accepted_answers : (new : Imported) → from new.text → (r : Result Program Refusal) → checked new.text ≡ r → Answers from (if_accepted new r)
  unfolding Answers
  accepted_answers new here (Ok program) e = (program, e)
  accepted_answers new here (Err refusal) e = (new.text, (e, here))

  text_answers : (text : List ℕ) → from text → ((old : List ℕ) → from (rewritten_source old).text) → (r : Result Program Refusal) → checked text ≡ r → Answers from (text_imported text r)
  unfolding Answers
  text_answers text here there (Ok program) e = (program, e)
  text_answers text here there (Err refusal) e =
      elim (nat_lt TEXT_BYTES (length text) || not (is_utf8 text)) as (λ (b : Bool). Answers from (if b then Err refusal else if_accepted (rewritten_source text) (checked (rewritten_source text).text))) [
        | true ↦ (text, (e, here))
        | false ↦ accepted_answers (rewritten_source text) (there text) (checked (rewritten_source text).text) refl
      ]

  told_answers : (r : Result Imported Refusal) → Answers from r → Answers from (converted r)
  unfolding Answers
  told_answers (Ok new) h = h
  told_answers (Err refusal) h = h

abbrev From : List ℕ → List ℕ → Type 0
From bytes text = (text ≡ bytes) ⊎ ((marked_text bytes ≡ Some text) ⊎ ((old : List ℕ) × (text ≡ (rewritten_source old).text)))

from_rewritten : (bytes old : List ℕ) → From bytes (rewritten_source old).text
from_rewritten bytes old = inr (inr (old, refl))

refused_answers : (bytes : List ℕ) (refusal : Refusal) (marked : Option (List ℕ)) → marked_text bytes ≡ marked → checked bytes ≡ Err refusal → Answers (From bytes) (refused_imported bytes refusal marked)
refused_answers bytes refusal None m e = text_answers (From bytes) bytes (inl refl) (from_rewritten bytes) (Err refusal) e
refused_answers bytes refusal (Some text) m e =
    told_answers (From bytes) (text_imported text (checked text)) (text_answers (From bytes) text (inr (inl m)) (from_rewritten bytes) (checked text) refl)

source_answers : (bytes : List ℕ) (r : Result Program Refusal) → checked bytes ≡ r → Answers (From bytes) (source_imported bytes r)
unfolding Answers
source_answers bytes (Ok program) e = (program, e)
source_answers bytes (Err refusal) e = refused_answers bytes refusal (marked_text bytes) refl e

answers : (bytes : List ℕ) → Answers (From bytes) (imported bytes)
unfolding imported
answers bytes = source_answers bytes (checked bytes) refl

pub imported_sources_are_accepted : ImportedSourcesAreAccepted
unfolding Answers
imported_sources_are_accepted bytes new e = subst (Answers (From bytes)) e (answers bytes)

pub refusals_are_the_compilers : RefusalsAreTheCompilers
unfolding Answers
refusals_are_the_compilers bytes refusal e = subst (Answers (From bytes)) e (answers bytes)

pub imported_sources_are_kept : ImportedSourcesAreKept
imported_sources_are_kept bytes new e = let found = imported_sources_are_accepted bytes new e in accepted_sources_are_kept new.text found.0 found.1

-- The program of a source that a checker accepts was read of it and isn't refused.
use Rattle.std.proofs.Common.{◌≡◌, ℕ, List, Option, Some, None, Result, Ok, Err, refl, subst}
use Rattle.kmn_base.specs.Answers.{and_then}
use Rattle.kmn_base.specs.declared.refusals.Refusal.{Refusal}
use Rattle.rule_model.specs.declared.program.Program.{Program}
use Rattle.kmn_parser.specs.Source.{parsed}
use Rattle.kmn_parser.proofs.ReadPrograms.{programs_are_read}
use Rattle.kmn_parser.proofs.SourceLines.{statements_in_order}
use Rattle.store_table.specs.First.{or_refusal}
use Rattle.rule_checker.specs.Refused.{IsRead, refused, checked}

-- what a program has that a source is read as
pub source_read : (source : List ℕ) (program : Program) → parsed source ≡ Ok program → IsRead program
source_read source program is = record { statements = programs_are_read source program is; order = statements_in_order source program is }

accepted_of : (read : Result Program Refusal) (program : Program) → and_then read (λ p. or_refusal p (refused p)) ≡ Ok program → (read ≡ Ok program) × (refused program ≡ None)
accepted_of (Err found) program e = absurd (cc)
accepted_of (Ok other) program e = by (refused other) refl e
  where
    by : (found : Option Refusal) → refused other ≡ found → or_refusal other found ≡ Ok program → (◌≡◌ {A = Result Program Refusal} (Ok other) (Ok program)) × (refused program ≡ None)
    by None is f = let same : other ≡ program = cc in (f, subst (λ (p : Program). refused p ≡ None) same is)
    by (Some found) is f = absurd (cc)

pub accepted_parts : (source : List ℕ) (program : Program) → checked source ≡ Ok program → (parsed source ≡ Ok program) × (refused program ≡ None)
accepted_parts source program is = accepted_of (parsed source) program is

-- When new bytes replace the bytes of a line.
use Rattle.std.proofs.Common.{◌≡◌, ℕ, ◌==◌, Bool, true, false, List, [], ◌∷◌, length, Some, refl, sym, ap, ◌∙◌, arith, if◌then◌else◌}
use Rattle.std.proofs.lemmas.Bool.{eqb-true, false≢true}
use Rattle.import_lines.specs.declared.change_kind.ChangeKind.{ChangeKind}
use Rattle.import_lines.specs.declared.rewrite.WrittenLine.{WrittenLine}
use Rattle.import_lines.specs.Written.{can_replace, unchanged_line, if_same_line_ends}

-- a line without a change is kept
pub kept_without_change : (old new : List ℕ) (kinds : List ChangeKind) → true ≡ (length kinds == 0) → unchanged_line old ≡ if_same_line_ends old kinds (Some new)
kept_without_change old new [] e = refl
kept_without_change old new (kind ∷ kinds) e = let none : length (kind ∷ kinds) ≡ 0 = eqb-true (length (kind ∷ kinds)) 0 (sym e) in absurd (omega arith)

-- and one that the new bytes cannot replace
pub kept_other : (old new slice : List ℕ) (kinds : List ChangeKind) (passed : Bool) → passed ≡ false → passed ≡ can_replace old slice → slice ≡ new
    → unchanged_line old ≡ if_same_line_ends old kinds (Some new)
kept_other old new slice [] passed failed e same = refl
kept_other old new slice (kind ∷ kinds) passed failed e same =
    ap (λ (b : Bool). if b then record { bytes = new; kinds = kind ∷ kinds } else unchanged_line old) (sym failed ∙ e ∙ ap (can_replace old) same)

-- any other one is replaced
pub replaced : (old new slice : List ℕ) (kinds : List ChangeKind) (passed : Bool) → false ≡ (length kinds == 0) → passed ≡ true → passed ≡ can_replace old slice → slice ≡ new
    → ◌≡◌ {A = WrittenLine} (record { bytes = new; kinds = kinds }) (if_same_line_ends old kinds (Some new))
replaced old new slice [] passed some passes e same = absurd (false≢true some)
replaced old new slice (kind ∷ kinds) passed some passes e same =
    ap (λ (b : Bool). if b then record { bytes = new; kinds = kind ∷ kinds } else unchanged_line old) (sym passes ∙ e ∙ ap (can_replace old) same)

-- Each line is kept in its place.
use Rattle.std.proofs.Common.{◌≡◌, ℕ, Bool, true, false, ◌&&◌, List, [], ◌∷◌, length, Option, Some, None, refl, if◌then◌else◌}
use Rattle.std.specs.Prelude.{nat_eq, nat_le}
use Rattle.std.specs.List.{AllZip}
use Rattle.std.specs.Bool.{beq}
use Rattle.std.specs.Str.{is_utf8}
use Rattle.std.proofs.lemmas.Bool.{and_parts, eqb-true, false≢true}
use Rattle.kmn_base.specs.declared.limits.TheConstants.{TEXT_BYTES}
use Rattle.kmn_lines.specs.Lines.{physical_lines_at, logicals}
use Rattle.kmn_lines.specs.declared.logical.Logical.{Logical}
use Rattle.import_lines.specs.declared.change_kind.ChangeKind.{ChangeKind}
use Rattle.import_tokens.specs.Scan.{tokens_of}
use Rattle.import_outline.specs.LineKinds.{line_kind}
use Rattle.import_outline.specs.declared.outline.Outline.{Outline}
use Rattle.import_lines.specs.declared.rewrite.WrittenLine.{WrittenLine}
use Rattle.import_outline.specs.Outline.{source_outline}
use Rattle.import_lines.specs.Rewrites.{line_rewrite, group_after}
use Rattle.import_lines.specs.Written.{form_bytes, line_bytes, inner_ends, begins_lf, ends_cr, ends_whole, ends_joined, is_empty, has_same_line_ends, can_replace, unchanged_line, if_same_line_ends}
use Rattle.kmn_import.specs.Import.{written_lines}
use Rattle.kmn_import.specs.Laws.{AreAlike, IsKeptInPlace, RewritingKeepsLines}

-- a line without a change has these bytes, and each line has as many line ends
abbrev KeptLine : List ℕ → WrittenLine → Type 0
KeptLine old line = (line.kinds ≡ [] → line.bytes ≡ old) × AreAlike line.bytes old

some_change : (kind : ChangeKind) (kinds : List ChangeKind) → ◌≡◌ {A = List ChangeKind} (kind ∷ kinds) [] → ⊥
some_change kind kinds e = cc

pub alike_self : (old : List ℕ) → AreAlike old old
alike_self old = record { inner = refl; first = refl; last = refl; empty = refl }

same_bool : (a b : Bool) → beq a b ≡ true → a ≡ b
same_bool true true e = refl
same_bool true false e = absurd (false≢true e)
same_bool false true e = absurd (false≢true e)
same_bool false false e = refl

fit_alike : (old new : List ℕ) → can_replace old new ≡ true → AreAlike new old
fit_alike old new h =
    let e = (and_parts (nat_le (length new) TEXT_BYTES && is_utf8 new) (has_same_line_ends old new) h).1 in
    let joints : Bool = beq (ends_joined (physical_lines_at 1 0 new)) (ends_joined (physical_lines_at 1 0 old)) in
    let ends : Bool = beq (ends_whole new) (ends_whole old) && joints in
    let none : Bool = beq (is_empty new) (is_empty old) && ends in
    let a = and_parts (nat_eq (inner_ends new) (inner_ends old)) (beq (begins_lf new) (begins_lf old) && (beq (ends_cr new) (ends_cr old) && none)) e in
    let b = and_parts (beq (begins_lf new) (begins_lf old)) (beq (ends_cr new) (ends_cr old) && none) a.1 in
    let c = and_parts (beq (ends_cr new) (ends_cr old)) none b.1 in
    let d = and_parts (beq (is_empty new) (is_empty old)) ends c.1 in
    record { inner = eqb-true (inner_ends new) (inner_ends old) a.0; first = same_bool _ _ b.0; last = same_bool _ _ c.0; empty = same_bool _ _ d.0 }

fitting : (old new : List ℕ) (kind : ChangeKind) (kinds : List ChangeKind) (b : Bool) → can_replace old new ≡ b → KeptLine old (if b then record { bytes = new; kinds = kind ∷ kinds } else unchanged_line old)
fitting old new kind kinds true e = ((λ none. absurd (some_change kind kinds none)), fit_alike old new e)
fitting old new kind kinds false e = ((λ none. refl), alike_self old)

kept_if : (old : List ℕ) (kinds : List ChangeKind) (new : Option (List ℕ)) → KeptLine old (if_same_line_ends old kinds new)
kept_if old [] None = ((λ none. refl), alike_self old)
kept_if old (kind ∷ kinds) None = ((λ none. refl), alike_self old)
kept_if old [] (Some new) = ((λ none. refl), alike_self old)
kept_if old (kind ∷ kinds) (Some new) = fitting old new kind kinds (can_replace old new) refl

lines_kept : (source : List ℕ) (outline : Outline) (group : List ℕ) (ls : List Logical) → AllZip (IsKeptInPlace source) ls (written_lines source outline group ls)
lines_kept source outline group [] = tt
lines_kept source outline group (l ∷ ls) =
    let tokens = tokens_of source l in
    let here = group_after group (line_kind tokens) in
    let r = line_rewrite outline here tokens in
    let h = kept_if (line_bytes source l) r.kinds (form_bytes source l r.form) in
    (record { unchanged = h.0; alike = h.1 }, lines_kept source outline here ls)

pub rewriting_keeps_lines : RewritingKeepsLines
rewriting_keeps_lines source = lines_kept source (source_outline source) [] (logicals source)

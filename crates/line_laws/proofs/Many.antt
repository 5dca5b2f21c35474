-- The lines of many joined texts.
use Rattle.std.proofs.Common.{◌≡◌, ℕ, ◌+◌, List, [], ◌∷◌, ◌++◌, length, None, sym, ◌∙◌, ap, append-nil, append_assoc, length-append}
use Rattle.std.proofs.Math.Seq.{drop-append_seam}
use Rattle.kmn_lines.specs.Lines.{line_start, physical_lines, physical_lines_at, gather}
use Rattle.kmn_lines.specs.Laws.{line_ends}
use Rattle.kmn_lines.specs.declared.logical.Logical.{Logical}
use Rattle.kmn_lines.proofs.LineTexts.{lines-none}
use Rattle.line_laws.specs.Laws.{placed, together, LinesOfMany, LinesOfTexts}
use Rattle.line_laws.proofs.Behind.{logicals_of_both}
use Rattle.line_laws.proofs.Alone.{one_line, joints_stand_alone}

none-left : (number : ℕ) (front : List ℕ) → physical_lines_at number (length front) (front ++ []) ≡ []
none-left number front =
    ap (λ (xs : List ℕ). physical_lines number (length front) line_start (length front) xs) (drop-append_seam front [])
    ∙ lines-none number (length front)

pub lines_of_many : LinesOfMany
lines_of_many number front [] h = ap (gather None) (none-left number front)
lines_of_many number front (line ∷ []) h =
    ap (λ (xs : List ℕ). gather None (physical_lines_at number (length front) (front ++ xs))) (append-nil line)
    ∙ one_line number front line h
lines_of_many number front (line ∷ next ∷ lines) (one, ends, seam, joint, h) =
    let n : ℕ = number + line_ends (length line) line in
    let rest : List ℕ = together (next ∷ lines) in
    logicals_of_both number front line rest ends seam (joints_stand_alone number front line ∙ joint)
    ∙ ap (λ (ls : List Logical). ls ++ gather None (physical_lines_at n (length front + length line) (front ++ (line ++ rest)))) (one_line number front line one)
    ∙ ap (λ (k : ℕ). placed number front line ∷ gather None (physical_lines_at n k (front ++ (line ++ rest)))) (sym (length-append front line))
    ∙ ap (λ (xs : List ℕ). placed number front line ∷ gather None (physical_lines_at n (length (front ++ line)) xs)) (sym (append_assoc front line rest))
    ∙ ap (λ (ls : List Logical). placed number front line ∷ ls) (lines_of_many n (front ++ line) (next ∷ lines) h)

pub lines_are_of_texts : LinesOfTexts
lines_are_of_texts number front [] h = ap (gather None) (none-left number front)
lines_are_of_texts number front (text ∷ []) h =
    ap (λ (xs : List ℕ). gather None (physical_lines_at number (length front) (front ++ xs))) (append-nil text)
    ∙ sym (append-nil (gather None (physical_lines_at number (length front) (front ++ text))))
lines_are_of_texts number front (text ∷ next ∷ texts) (ends, seam, joint, h) =
    let n : ℕ = number + line_ends (length text) text in
    let rest : List ℕ = together (next ∷ texts) in
    let here : List Logical = gather None (physical_lines_at number (length front) (front ++ text)) in
    logicals_of_both number front text rest ends seam (joints_stand_alone number front text ∙ joint)
    ∙ ap (λ (k : ℕ). here ++ gather None (physical_lines_at n k (front ++ (text ++ rest)))) (sym (length-append front text))
    ∙ ap (λ (xs : List ℕ). here ++ gather None (physical_lines_at n (length (front ++ text)) xs)) (sym (append_assoc front text rest))
    ∙ ap (λ (ls : List Logical). here ++ ls) (lines_are_of_texts n (front ++ text) (next ∷ texts) h)

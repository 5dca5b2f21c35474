-- The position of the caret in the whole text after a move and after a replacement.
use Rattle.std.proofs.Common.{◌≡◌, ℕ, ◌+◌, ◌-◌, ◌≤◌, List, ◌++◌, length, take, drop, refl, sym, ◌∙◌, ap, length-append, arith}
use Rattle.std.proofs.lemmas.List.{take-append-le, drop-append-le, take-take, take_at, drop_at, length-take-le}
use Rattle.std.proofs.Math.Seq.{take-append-add, drop-append-add}
use Rattle.rule_model.specs.Event.{edited_text}
use Rattle.editor_model.specs.Text.{EditorText, whole, IsAt}

-- if the caret moves back to a position, the editor has the same text with the caret at this position
pub gone_back : (before after : EditorText) (place : ℕ) → place ≤ length before.left
    → after.left ≡ take (length before.left - (length before.left - place)) before.left
    → after.right ≡ drop (length before.left - (length before.left - place)) before.left ++ before.right → IsAt (whole before) place after
gone_back before after place less lefts rights =
    let same : length before.left - (length before.left - place) ≡ place = omega arith in
    record {
      left = lefts ∙ ap (λ k. take k before.left) same ∙ sym (take-append-le place before.left before.right less);
      right = rights ∙ ap (λ k. drop k before.left ++ before.right) same ∙ sym (drop-append-le place before.left before.right less);
    }

-- if the caret moves forward to a position, the editor has the same text with the caret at this position
pub gone_forth : (before after : EditorText) (place : ℕ) → length before.left ≤ place
    → after.left ≡ before.left ++ take (place - length before.left) before.right
    → after.right ≡ drop (place - length before.left) before.right → IsAt (whole before) place after
gone_forth before after place less lefts rights =
    let same : length before.left + (place - length before.left) ≡ place = omega arith in
    record {
      left = lefts ∙ sym (take-append-add before.left before.right (place - length before.left)) ∙ ap (λ k. take k (whole before)) same;
      right = rights ∙ sym (drop-append-add before.left before.right (place - length before.left)) ∙ ap (λ k. drop k (whole before)) same;
    }

pub ruleset place_steps = (gone_back, gone_forth)

-- if characters before a caret at `to` are replaced from `from` on, the caret is after the new characters of the edited text
pub replaced : (before at after : EditorText) (from to : ℕ) (text : List ℕ) → from ≤ to → to ≤ length (whole before) → IsAt (whole before) to at
    → after.left ≡ take (length at.left - (to - from)) at.left ++ text → after.right ≡ at.right → IsAt (edited_text from to text (whole before)) (from + length text) after
replaced before at after from to text ordered within h lefts rights =
    let count : length (take to (whole before)) ≡ to = length-take-le to (whole before) within in
    let long : length at.left ≡ to = ap length h.left ∙ count in
    let back : length at.left - (to - from) ≡ from = omega arith in
    let front : take (length at.left - (to - from)) at.left ≡ take from (whole before)
    = (λ i. take (back i) (h.left i)) ∙ take-take from to (whole before) ordered in
    let left : after.left ≡ take from (whole before) ++ text = lefts ∙ ap (λ t. t ++ text) front in
    let size : length (take from (whole before) ++ text) ≡ from + length text = length-append (take from (whole before)) text ∙ ap (λ n. n + length text) (length-take-le from (whole before) (omega arith)) in
    let parts : edited_text from to text (whole before) ≡ (take from (whole before) ++ text) ++ drop to (whole before) = refl in
    record {
      left = left ∙ sym (ap (take (from + length text)) parts ∙ take_at (take from (whole before) ++ text) (drop to (whole before)) (from + length text) size);
      right = rights ∙ h.right ∙ sym (ap (drop (from + length text)) parts ∙ drop_at (take from (whole before) ++ text) (drop to (whole before)) (from + length text) size);
    }

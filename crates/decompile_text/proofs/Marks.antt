-- The deadkeys of a store, one by one.
use Rattle.std.proofs.Common.{◌≡◌, ◌<◌, ◌≤◌, ℕ, ◌+◌, ◌-◌, suc, [], ◌∷◌, ◌++◌, ap, arith, codes}
use Rattle.std.specs.Fmt.{decimal}
use Rattle.std.specs.List.{range_with_len}
use Rattle.decompile_text.specs.Texts.{marks_text}

pub next_mark : (before greatest : ℕ) → before < greatest
    → marks_text (range_with_len (before + 1) (greatest - before)) ≡ codes " dk(" ++ (decimal (before + 1) ++ 41 ∷ marks_text (range_with_len (before + 1 + 1) (greatest - (before + 1))))
next_mark before greatest within =
    let more : greatest - before ≡ suc (greatest - (before + 1)) = omega arith in
    ap (λ (n : ℕ). marks_text (range_with_len (before + 1) n)) more

pub no_mark : (before greatest : ℕ) → greatest ≤ before → marks_text (range_with_len (before + 1) (greatest - before)) ≡ []
no_mark before greatest past =
    let none : greatest - before ≡ 0 = omega arith in
    ap (λ (n : ℕ). marks_text (range_with_len (before + 1) n)) none

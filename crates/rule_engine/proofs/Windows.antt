-- Removing the last items of a list from its window.
use Rattle.std.proofs.Common.{◌≡◌, ℕ, ◌-◌, ◌≤◌, min, List, length, take, ap, arith}
use Rattle.kmn_base.specs.declared.items.Item.{Item}
use Rattle.kmn_base.specs.Lists.{without_last, window}
use Rattle.kmn_base.proofs.Lists.{length-window}

-- if at most 64 items are removed, limiting their number to the length of the window makes no difference
pub taken_from_window : (left : List Item) (count : ℕ) → count ≤ 64 → without_last (min count (length (window left))) left ≡ without_last count left
taken_from_window left count few =
    let same : length left - min count (length (window left)) ≡ length left - count = omega (arith, length-window left) in
    ap (λ (n : ℕ). take n left) same

pub window_is_few : (left : List Item) → length (window left) ≤ 64
window_is_few left = omega (arith, length-window left)

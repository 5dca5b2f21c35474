-- If a text does not begin with the sentinel, it contains the sentinel if and only if the text after its first byte does.
use Rattle.std.proofs.Common.{◌≡◌, ℕ, ◌+◌, ◌<◌, Bool, false, ◌||◌, List, ◌∷◌, length, drop, get_or, refl, sym, subst}
use Rattle.std.proofs.lemmas.List.{drop_more}
use Rattle.touch_layout.specs.Ids.{begins_with_sentinel, has_sentinel}

is_false : (x y : Bool) → x ≡ false → (x || y) ≡ y
is_false x y differs = subst (λ z. (z || y) ≡ y) (sym differs) refl

behind_first : (b : ℕ) (bytes : List ℕ) → begins_with_sentinel (b ∷ bytes) ≡ false → has_sentinel (b ∷ bytes) ≡ has_sentinel bytes
behind_first b bytes differs = is_false (begins_with_sentinel (b ∷ bytes)) (has_sentinel bytes) differs

pub sentinel_behind : (text : List ℕ) (at : ℕ) → at < length text → begins_with_sentinel (drop at text) ≡ false
    → has_sentinel (drop (at + 1) text) ≡ has_sentinel (drop at text)
sentinel_behind text at inside differs =
    let cut = drop_more text at 0 inside in
    let rest = behind_first (get_or text at 0) (drop (at + 1) text) (subst (λ all. begins_with_sentinel all ≡ false) cut differs) in
    sym (subst (λ all. has_sentinel all ≡ has_sentinel (drop (at + 1) text)) (sym cut) rest)

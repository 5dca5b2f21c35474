-- A text that begins with a word has it, and one that does not has it if and only if the text after its first byte does.
use Rattle.std.proofs.Common.{◌≡◌, ℕ, ◌+◌, ◌<◌, Bool, true, false, ◌||◌, List, ◌∷◌, length, drop, get_or, refl, sym, subst}
use Rattle.std.proofs.lemmas.List.{drop_more}
use Rattle.touch_board.specs.Words.{begins_with, has_word}

is_false : (x y : Bool) → x ≡ false → (x || y) ≡ y
is_false x y differs = subst (λ z. (z || y) ≡ y) (sym differs) refl

behind_first : (word : List ℕ) (b : ℕ) (bytes : List ℕ) → begins_with word (b ∷ bytes) ≡ false → has_word word (b ∷ bytes) ≡ has_word word bytes
behind_first word b bytes differs = is_false (begins_with word (b ∷ bytes)) (has_word word bytes) differs

pub word_behind : (word text : List ℕ) (at : ℕ) → at < length text → begins_with word (drop at text) ≡ false
    → has_word word (drop (at + 1) text) ≡ has_word word (drop at text)
word_behind word text at inside differs =
    let cut = drop_more text at 0 inside in
    let rest = behind_first word (get_or text at 0) (drop (at + 1) text) (subst (λ all. begins_with word all ≡ false) cut differs) in
    sym (subst (λ all. has_word word all ≡ has_word word (drop (at + 1) text)) (sym cut) rest)

is_true : (x y : Bool) → x ≡ true → (x || y) ≡ true
is_true x y found = subst (λ z. (z || y) ≡ true) (sym found) refl

at_first : (word : List ℕ) (b : ℕ) (bytes : List ℕ) → begins_with word (b ∷ bytes) ≡ true → has_word word (b ∷ bytes) ≡ true
at_first word b bytes found = is_true (begins_with word (b ∷ bytes)) (has_word word bytes) found

pub word_found : (word text : List ℕ) (at : ℕ) → at < length text → begins_with word (drop at text) ≡ true → has_word word (drop at text) ≡ true
word_found word text at inside found =
    let cut = drop_more text at 0 inside in
    subst (λ all. has_word word all ≡ true) (sym cut)
    (at_first word (get_or text at 0) (drop (at + 1) text) (subst (λ all. begins_with word all ≡ true) cut found))

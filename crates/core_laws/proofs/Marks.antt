-- Lists without marks.
use Rattle.std.specs.Prelude.{◌≡◌, ℕ, ◌-◌, ◌<◌, ◌≤◌, Bool, true, false, nat_lt, if◌then◌else◌, List, [], ◌∷◌, ◌++◌, length}
use Rattle.std.specs.List.{All, suffix_len}
use Rattle.std.proofs.Common.{ap, ◌∙◌, arith}
use Rattle.std.proofs.lemmas.List.Elements.{All-head, All-push, All-tail, All-take}
use Rattle.std.proofs.lemmas.List.Sums.{suffix_len_is}
use Rattle.kmn_base.specs.declared.items.Item.{Item}
use Rattle.kmn_base.specs.declared.items.Item.TheVariants.{Char, Mark}
use Rattle.kmn_base.specs.Lists.{is_mark, without_last, window, put}
use Rattle.kmn_base.proofs.Lists.{map-characters, without_last-append-last}
use Rattle.core_meaning.specs.Events.{weight}

abbrev pub IsUnmarked : Item → Type 0
IsUnmarked x = is_mark x ≡ false

abbrev pub Unmarked : List Item → Type 0
Unmarked items = All (λ item. is_mark item ≡ false) items

pub unmarked_push : (items : List Item) (x : Item) → Unmarked items → IsUnmarked x → Unmarked (items ++ x ∷ [])
unmarked_push items x all last = All-push (λ item. is_mark item ≡ false) items x all last

pub unmarked_without : (n : ℕ) (items : List Item) → Unmarked items → Unmarked (without_last n items)
unmarked_without n items all = All-take (λ item. is_mark item ≡ false) (length items - n) items all

-- without marks, nothing is forgotten at a put
pub put_unmarked : (items : List Item) (x : Item) → Unmarked items → IsUnmarked x → put items x ≡ items ++ x ∷ []
put_unmarked items x all last =
    ap (λ (front : List Item). front ++ window (items ++ x ∷ [])) (map-characters (without_last 64 (items ++ x ∷ [])) (unmarked_without 64 (items ++ x ∷ []) (unmarked_push items x all last)))
    ∙ without_last-append-last 64 (items ++ x ∷ [])

true_false : true ≡ false → ⊥
true_false e = grind arith

-- the end of such a list has no marks
pub no_marks_behind : (items : List Item) → Unmarked items → suffix_len is_mark items ≡ 0
no_marks_behind items all =
    suffix_len_is is_mark items (length items) (Char 0) (omega arith)
    (λ k more less. absurd (none_between k (length items) more less))
    (λ some. all (length items - 1) (Char 0) (omega (arith, some)))
    ∙ none_left (length items)
  where
    none_between : (k n : ℕ) → n ≤ k → k < n → ⊥
    none_between k n more less = omega arith

    none_left : (n : ℕ) → n - n ≡ 0
    none_left n = omega arith

pub light : (x : Item) → IsUnmarked x → weight x ≤ 2
light (Char c) plain = elim (nat_lt c 0x1_0000) as (λ (b : Bool). (if b then 1 else 2) ≤ 2) [ true ↦ omega arith | false ↦ omega arith ]
light (Mark m) plain = absurd (true_false plain)

pub weighty : (x : Item) → weight x ≤ 3
weighty (Char c) = elim (nat_lt c 0x1_0000) as (λ (b : Bool). (if b then 1 else 2) ≤ 3) [ true ↦ omega arith | false ↦ omega arith ]
weighty (Mark m) = omega arith

pub some_weight : (x : Item) → 1 ≤ weight x
some_weight (Char c) = elim (nat_lt c 0x1_0000) as (λ (b : Bool). 1 ≤ (if b then 1 else 2)) [ true ↦ omega arith | false ↦ omega arith ]
some_weight (Mark m) = omega arith

-- an item of such a list is none
pub unmarked_at : (front : List Item) (x : Item) (rest : List Item) → Unmarked (front ++ x ∷ rest) → IsUnmarked x
unmarked_at [] x rest all = All-head (λ item. is_mark item ≡ false) x rest all
unmarked_at (y ∷ front) x rest all = unmarked_at front x rest (All-tail (λ item. is_mark item ≡ false) y (front ++ x ∷ rest) all)

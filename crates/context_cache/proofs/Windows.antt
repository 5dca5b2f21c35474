-- The window after a put, a fill and reading again.
use Rattle.std.proofs.Common.{get_or, zero, suc, append_assoc, min, ◌+◌, ◌≡◌, ℕ, ◌<◌, ◌≤◌, ◌-◌, true, false, List, [], ◌∷◌, ◌++◌, length, drop, take, map, eqb, refl, sym, ◌∙◌, ap, inl, inr, arith, length-append, length-drop}
use Rattle.std.specs.Prelude.{◌||◌}
use Rattle.std.specs.List.{remove, ends_with, refill}
use Rattle.std.proofs.lemmas.List.{drop-append-le, drop-map, drop-take, length-map, length-take}
use Rattle.std.proofs.lemmas.Grind.{common_steps}
use Rattle.std.proofs.Math.Seq.{drop-append_seam, take-append_seam}
use Rattle.std.proofs.Math.Nat.{min-eq_left}
use Rattle.std.proofs.lemmas.Slice.Eq.{bytes_eq-Decides}
use Rattle.std.proofs.lemmas.Bool.{cases_Bool, eqb-true, and_parts}
use Rattle.kmn_base.specs.declared.items.Item.{Item}
use Rattle.kmn_base.specs.declared.items.Item.TheVariants.{Char}
use Rattle.kmn_base.specs.Lists.{characters, without_last, window, is_still_suffix, read_again}
use Rattle.kmn_base.proofs.Lists.{window_short, window_at}
use Rattle.kmn_base.proofs.ReadingAgain.{read_again-stands, read_again-lost}
use Rattle.context_cache.specs.Cached.{filled}

pub window_with_room : (items : List Item) (item : Item) → length items < 64 → items ++ item ∷ [] ≡ window (items ++ item ∷ [])
window_with_room items item h = sym (window_short (items ++ item ∷ []) (omega (arith, length-append items (item ∷ []))))

pub window_full : (items : List Item) (item : Item) → length items ≡ 64 → remove items 0 ++ item ∷ [] ≡ window (items ++ item ∷ [])
window_full items item h =
    let one : length (items ++ item ∷ []) - 64 ≡ 1 = omega (arith, length-append items (item ∷ [])) in
    sym (ap (λ n. drop n (items ++ item ∷ [])) one ∙ drop-append-le 1 items (item ∷ []) (omega arith))

-- the missing characters before the items, followed by the items, are the filled items
pub filled_in : (text : List ℕ) (old : List Item) (before missing : ℕ) → length old ≤ 64 → before ≡ length text - length (characters old)
    → missing ≡ min before (64 - length old)
    → map Char (take missing (drop (before - missing) text)) ++ old ≡ filled text old
filled_in text old before missing few at is =
    let place : ℕ = before - missing in
    let front : List ℕ = take before text in
    let within : before ≤ length text = omega (arith, at) in
    let parted : place + missing ≡ before = omega (arith, is) in
    let len : length front ≡ before = length-take before text ∙ min-eq_left within in
    let many : length (map Char front) ≡ before = length-map front Char ∙ len in
    let start : length (map Char front ++ old) - 64 ≡ place = omega (arith, length-append (map Char front) old, many, is, few) in
    let last : drop place front ≡ take missing (drop place text) = ap (λ n. drop place (take n text)) (sym parted) ∙ drop-take place missing text in
    sym (ap (λ n. window (map Char (take n text) ++ old)) (sym at)
    ∙ ap (λ n. drop n (map Char front ++ old)) start
    ∙ drop-append-le place (map Char front) old (omega (arith, many, parted))
    ∙ ap (λ xs. xs ++ old) (drop-map Char place front ∙ ap (map Char) last))

-- the missing characters are pushed after the items and moved before them by a rotation
pub rotated_in : (text : List ℕ) (old : List Item) (before missing count : ℕ) → length old ≤ 64 → before ≡ length text - length (characters old)
    → missing ≡ min before (64 - length old) → count ≡ length old
    → drop count (old ++ map Char (take missing (drop (before - missing) text))) ++ take count (old ++ map Char (take missing (drop (before - missing) text)))
    ≡ filled text old
rotated_in text old before missing count few at is all =
    let more : List Item = map Char (take missing (drop (before - missing) text)) in
    ap (λ n. drop n (old ++ more) ++ take n (old ++ more)) all
    ∙ (ap (λ xs. xs ++ take (length old) (old ++ more)) (drop-append_seam old more)
    ∙ (ap (λ xs. more ++ xs) (take-append_seam old more)
    ∙ filled_in text old before missing few at is))

-- writing all items leaves the written items
pub all_written : (n : ℕ) (items written : List Item) → n ≡ length written → refill n items written ≡ written
all_written n items written all =
    ap (λ k. take k (written ++ drop (length written) items)) all ∙ take-append_seam written (drop (length written) items)

-- if no characters are missing, the items are the filled items
pub none_missing : (text : List ℕ) (old : List Item) → length old ≤ 64 → min (length text - length (characters old)) (64 - length old) ≡ 0
    → old ≡ filled text old
none_missing text old few none = filled_in text old (length text - length (characters old)) 0 few refl (sym none)

-- the characters from a position on begin with the character at it
pub next_character : (text : List ℕ) (place n : ℕ) → place < length text → 0 < n
    → map Char (take n (drop place text)) ≡ Char (get_or text place 0) ∷ map Char (take (n - 1) (drop (suc place) text))
next_character [] place n within some = absurd (omega (arith, within))
next_character (c ∷ text) zero zero within some = absurd (omega (arith, some))
next_character (c ∷ text) zero (suc n) within some = ap (λ m. Char c ∷ map Char (take m text)) (omega arith)
next_character (c ∷ text) (suc place) n within some = next_character text place n (omega (arith, within)) some

pub characters_pushed : (items : List Item) (text : List ℕ) (place end : ℕ) (c : Item) → place < length text → place < end → c ≡ Char (get_or text place 0)
    → (items ++ c ∷ []) ++ map Char (take (end - (place + 1)) (drop (place + 1) text)) ≡ items ++ map Char (take (end - place) (drop place text))
characters_pushed items text place end c within some is =
    let fewer : end - (place + 1) ≡ end - place - 1 = omega arith in
    let next : place + 1 ≡ suc place = omega arith in
    append_assoc items (c ∷ []) (map Char (take (end - (place + 1)) (drop (place + 1) text)))
    ∙ (ap (λ x. items ++ x ∷ map Char (take (end - (place + 1)) (drop (place + 1) text))) is
    ∙ (ap (λ n. items ++ Char (get_or text place 0) ∷ map Char (take n (drop (place + 1) text))) fewer
    ∙ (ap (λ m. items ++ Char (get_or text place 0) ∷ map Char (take (end - place - 1) (drop m text))) next
    ∙ ap (λ xs. items ++ xs) (sym (next_character text place (end - place) within (omega arith))))))

pub still_the_same : (items : List Item) (text : List ℕ) → length items ≤ 64 → is_still_suffix items text ≡ true → items ≡ window (read_again items text)
still_the_same items text few h =
    let w : window items ≡ items = window_short items few in
    let stands : is_still_suffix (window items) text ≡ true = ap (λ kept. is_still_suffix kept text) w ∙ h in
    let front : List Item = map Char (without_last (length (characters (window items))) text) in
    let e : read_again items text ≡ front ++ window items = read_again-stands items text stands in
    let known : (eqb (length items) 64 || eqb (length text) (length (characters items))) ≡ true = (and_parts (ends_with eqb text (characters items)) _ h).1 in
    elim (cases_Bool (eqb (length items) 64)) [
      | inl full ↦ sym w ∙ sym (window_at front (window items) (ap length w ∙ eqb-true (length items) 64 full)) ∙ ap window (sym e)
      | inr more ↦
          let all : eqb (length text) (length (characters items)) ≡ true = ap (λ b. b || eqb (length text) (length (characters items))) (sym more) ∙ known in
          let count : length text ≡ length (characters items) = eqb-true _ _ all in
          let same : length (characters (window items)) ≡ length (characters items) = ap (λ kept. length (characters kept)) w in
          let none : length text - length (characters (window items)) ≡ 0 = omega arith in
          let front_none : front ≡ [] = ap (λ n. map Char (take n text)) none in
          let whole_is : read_again items text ≡ items = e ∙ ap (λ xs. xs ++ window items) front_none ∙ w in
          sym (ap window whole_is ∙ w)
    ]

pub read_anew : (items kept : List Item) (text : List ℕ) → length items ≤ 64 → is_still_suffix items text ≡ false → kept ≡ map Char (drop (length text - 64) text) → kept ≡ window (read_again items text)
read_anew items kept text few h e =
    let w : window items ≡ items = window_short items few in
    let lost : read_again items text ≡ map Char text = read_again-lost items text (ap (λ k. is_still_suffix k text) w ∙ h) in
    let len : length (map Char text) ≡ length text = grind (arith, common_steps) in
    e ∙ sym (drop-map Char (length text - 64) text) ∙ ap (λ n. drop (n - 64) (map Char text)) (sym len) ∙ ap window (sym lost)

-- a text that is shorter than another does not end with it
pub ends_short : (text needle : List ℕ) → length text < length needle → false ≡ ends_with eqb text needle
ends_short text needle short = elim (cases_Bool (ends_with eqb text needle)) [
  | inl yes_ends ↦
      let same : needle ≡ drop (length text - length needle) text = (bytes_eq-Decides needle (drop (length text - length needle) text)).0 yes_ends in
      absurd (omega (arith, ap length same, length-drop (length text - length needle) text))
  | inr other ↦ sym other
]

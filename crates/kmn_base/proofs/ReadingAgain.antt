-- Lemmas on the text read again.
use Rattle.std.proofs.Common.{◌≡◌, ℕ, ◌-◌, true, false, cond, ◌||◌, ◌⊎◌, List, [], ◌++◌, length, take, drop, map, eqb, refl, sym, ◌∙◌, ap, subst, inl, inr, arith, length-append}
use Rattle.std.specs.List.{ends_with}
use Rattle.std.proofs.lemmas.Bool.{cases_lt, cases_Bool, and_parts, and_from, or_left, or_right, eq-eqb, cond-true, cond-false}
use Rattle.std.proofs.lemmas.List.{take-append-drop, append-nil, take_at}
use Rattle.std.proofs.lemmas.List.Prefix.{end_rest}
use Rattle.std.proofs.lemmas.Slice.Eq.{bytes_eq-Decides}
use Rattle.kmn_base.specs.declared.items.Item.{Item}
use Rattle.kmn_base.specs.declared.items.Item.TheVariants.{Char}
use Rattle.kmn_base.specs.Lists.{characters, without_last, window, IsSound, is_still_suffix, read_again}
use Rattle.kmn_base.specs.Laws.{ReadingAgainNeedsTheWindow, ReadingAgainIsSound, ReadingAgainGivesTheText, ReadingAgainTheSameText}
use Rattle.kmn_base.proofs.Lists.{characters-append, characters-map, unmarked, map-characters, without_last-append-last, length-window, IsSound_from_front}

-- the list without its last n items is the front
pub without_last_at : {X : Type 0} (front back : List X) (n : ℕ) → length back ≡ n → without_last n (front ++ back) ≡ front
without_last_at front back n h = take_at front back (length (front ++ back) - n) (omega (arith, length-append front back))

-- if the characters are still there, the text ends with them, and the text before them is known
pub is_still_suffix-true : (kept : List Item) (text : List ℕ) → is_still_suffix kept text ≡ true → without_last (length (characters kept)) text ++ characters kept ≡ text
is_still_suffix-true kept text h =
    let at : ℕ = length text - length (characters kept) in
    let ends : ends_with eqb text (characters kept) ≡ true = (and_parts (ends_with eqb text (characters kept)) _ h).0 in
    let same : characters kept ≡ drop at text = (bytes_eq-Decides (characters kept) (drop at text)).0 ends in
    ap (λ cs. take at text ++ cs) same ∙ take-append-drop at text

pub still_stands_from_end : (kept : List Item) (text front : List ℕ) → text ≡ front ++ characters kept → (length kept ≡ 64) ⊎ (front ≡ []) → is_still_suffix kept text ≡ true
still_stands_from_end kept text front e known =
    let at : ℕ = length text - length (characters kept) in
    let behind : drop at text ≡ characters kept = end_rest text (characters kept) front e in
    let ends : ends_with eqb text (characters kept) ≡ true = (bytes_eq-Decides (characters kept) (drop at text)).1 (sym behind) in
    let before : (eqb (length kept) 64 || eqb (length text) (length (characters kept))) ≡ true = elim known [
      | inl full ↦ or_left (eqb (length kept) 64) _ (eq-eqb _ _ full)
      | inr none ↦ or_right (eqb (length kept) 64) _ (eq-eqb _ _ (ap length (e ∙ ap (λ cs. cs ++ characters kept) none)))
    ] in
    and_from _ _ ends before

pub read_again-stands : (items : List Item) (text : List ℕ) → is_still_suffix (window items) text ≡ true
    → read_again items text ≡ map Char (without_last (length (characters (window items))) text) ++ window items
read_again-stands items text h = cond-true (is_still_suffix (window items) text) _ _ h

pub read_again-lost : (items : List Item) (text : List ℕ) → is_still_suffix (window items) text ≡ false → read_again items text ≡ map Char text
read_again-lost items text h = cond-false (is_still_suffix (window items) text) _ _ h

pub reading_again_needs_the_window : ReadingAgainNeedsTheWindow
reading_again_needs_the_window a b text h =
    let from_kept : List Item → List Item = λ kept.
    cond (is_still_suffix kept text) (map Char (without_last (length (characters kept)) text) ++ kept) (map Char text) in
    ap from_kept h

pub reading_again_is_sound : ReadingAgainIsSound
reading_again_is_sound items text = elim (cases_Bool (is_still_suffix (window items) text)) [
  | inl stands ↦
      let front : List ℕ = without_last (length (characters (window items))) text in
      subst IsSound (sym (read_again-stands items text stands))
      (IsSound_from_front (map Char front) (window items) (unmarked front) (omega (arith, length-window items)))
  | inr lost ↦
      subst IsSound (append-nil (map Char text) ∙ sym (read_again-lost items text lost))
      (IsSound_from_front (map Char text) [] (unmarked text) (omega arith))
]

pub reading_again_gives_the_text : ReadingAgainGivesTheText
reading_again_gives_the_text items text = elim (cases_Bool (is_still_suffix (window items) text)) [
  | inl stands ↦
      let front : List ℕ = without_last (length (characters (window items))) text in
      ap characters (read_again-stands items text stands)
      ∙ characters-append (map Char front) (window items)
      ∙ ap (λ cs. cs ++ characters (window items)) (characters-map front)
      ∙ is_still_suffix-true (window items) text stands
  | inr lost ↦ ap characters (read_again-lost items text lost) ∙ characters-map text
]

pub reading_again_the_same_text : ReadingAgainTheSameText
reading_again_the_same_text items sound =
    let front : List Item = without_last 64 items in
    let parts : front ++ window items ≡ items = without_last-append-last 64 items in
    let text : characters items ≡ characters front ++ characters (window items)
    = ap characters (sym parts) ∙ characters-append front (window items) in
    let known : (length (window items) ≡ 64) ⊎ (characters front ≡ []) = elim (cases_lt (length items) 64) [
      | inl few ↦ inr (ap (λ n. characters (take n items)) (let none : length items - 64 ≡ 0 = omega arith in none))
      | inr full ↦ inl (omega (arith, length-window items))
    ] in
    let stands = still_stands_from_end (window items) (characters items) (characters front) text known in
    let before : without_last (length (characters (window items))) (characters items) ≡ characters front
    = ap (without_last (length (characters (window items)))) text ∙ without_last_at (characters front) (characters (window items)) _ refl in
    read_again-stands items (characters items) stands
    ∙ ap (λ cs. map Char cs ++ window items) before
    ∙ ap (λ xs. xs ++ window items) (map-characters front sound)
    ∙ parts

-- The cached contexts show which items a press put.
use Rattle.std.proofs.Common.{◌≡◌, ℕ, zero, suc, ◌+◌, ◌-◌, ◌<◌, ◌≤◌, true, false, List, [], ◌∷◌, ◌++◌, length, get_or, take, drop, map, eqb, refl, sym, ◌∙◌, ap, inl, inr, arith, length-append, length-drop}
use Rattle.std.specs.Prelude.{nat_le}
use Rattle.std.specs.List.{common_prefix_len}
use Rattle.std.proofs.lemmas.Bool.{cases_lt}
use Rattle.std.proofs.lemmas.Bool.Decides.{nat_tests}
use Rattle.std.proofs.lemmas.List.{drop-append-le, drop_more, drop_all}
use Rattle.std.proofs.lemmas.List.Sums.{common_prefix_len-le}
use Rattle.kmn_base.specs.declared.items.Item.{Item}
use Rattle.kmn_base.specs.declared.items.Item.TheVariants.{Char, Mark}
use Rattle.kmn_base.specs.Lists.{characters, without_last, window, IsSound}
use Rattle.kmn_base.proofs.Lists.{characters-append, characters-map, map-characters, without_last-append-last}
use Rattle.rule_model.specs.KeyEvent.{common_prefix}
use Rattle.rule_model.specs.Match.{same_item}
use Rattle.chart_board.specs.Cells.{characters_left, items_after, without_common}
use Rattle.chart_board.specs.Windows.{end_items, put_between, ContextsShowPutItems}

-- characters before a context, of which some are passed over
within_front : (front : List ℕ) (context : List Item) (kept : ℕ) → kept ≤ length front
    → items_after kept (map Char front ++ context) ≡ map Char (drop kept front) ++ context
within_front front context zero h = refl
within_front [] context (suc n) h = absurd (omega (arith, h))
within_front (c ∷ front) context (suc n) h = within_front front context n (omega (arith, h))

-- characters before a context that are all passed over, and more of the context
after_front : (front : List ℕ) (context : List Item) (kept n : ℕ) → kept ≡ length front + n
    → items_after kept (map Char front ++ context) ≡ items_after n context
after_front [] context kept n e = ap (λ (k : ℕ). items_after k context) (omega (arith, e))
after_front (c ∷ front) context zero n e = absurd (omega (arith, e))
after_front (c ∷ front) context (suc kept) n e = after_front front context kept n (omega (arith, e))

-- the items at the end by the context, if it has no more characters than there are
end_by_text : (chars : List ℕ) (context : List Item) → length (characters context) ≤ length chars
    → end_items chars context ≡ map Char (take (length chars - length (characters context)) chars) ++ context
end_by_text chars context h =
    let test : nat_le (length (characters context)) (length chars) ≡ true = grind (arith, nat_tests) in
    rw test refl

end_by_context : (chars : List ℕ) (context : List Item) → length chars < length (characters context)
    → end_items chars context ≡ items_after (length (characters context) - length chars) context
end_by_context chars context h =
    let test : nat_le (length (characters context)) (length chars) ≡ false = grind (arith, nat_tests) in
    rw test refl

-- a front of a list, which is taken from it
front_taken : (xs ys : List ℕ) (n : ℕ) → n ≡ length xs → take n (xs ++ ys) ≡ xs
front_taken [] ys n e = let none : n ≡ 0 = omega (arith, e) in rw none refl
front_taken (x ∷ xs) ys zero e = absurd (omega (arith, e))
front_taken (x ∷ xs) ys (suc n) e = ap (λ (rest : List ℕ). x ∷ rest) (front_taken xs ys n (omega (arith, e)))

-- a list whose front is passed over
front_dropped : (xs ys : List ℕ) (kept n : ℕ) → kept ≡ length xs + n → drop kept (xs ++ ys) ≡ drop n ys
front_dropped [] ys kept n e = ap (λ (k : ℕ). drop k ys) (omega (arith, e))
front_dropped (x ∷ xs) ys zero n e = absurd (omega (arith, e))
front_dropped (x ∷ xs) ys (suc kept) n e = front_dropped xs ys kept n (omega (arith, e))

-- the items at the end of a list that is characters and then a context
end_is : (front : List ℕ) (context : List Item) (kept : ℕ) → kept ≤ length front + length (characters context)
    → end_items (drop kept (front ++ characters context)) context ≡ items_after kept (map Char front ++ context)
end_is front context kept h = elim (cases_lt (length front) kept) [
  | inl past ↦
      let n : ℕ = kept - length front in
      let text : drop kept (front ++ characters context) ≡ drop n (characters context)
      = front_dropped front (characters context) kept n (omega (arith, past)) in
      let size : length (drop n (characters context)) ≡ length (characters context) - n = length-drop n (characters context) in
      ap (λ (chars : List ℕ). end_items chars context) text
      ∙ end_by_context (drop n (characters context)) context (omega (arith, size, past, h))
      ∙ ap (λ (k : ℕ). items_after k context) (omega (arith, size, past, h))
      ∙ sym (after_front front context kept n (omega (arith, past)))
  | inr within ↦
      let text : drop kept (front ++ characters context) ≡ drop kept front ++ characters context
      = drop-append-le kept front (characters context) within in
      let size : length (drop kept front ++ characters context) ≡ length (drop kept front) + length (characters context)
      = length-append (drop kept front) (characters context) in
      ap (λ (chars : List ℕ). end_items chars context) text
      ∙ end_by_text (drop kept front ++ characters context) context (omega (arith, size))
      ∙ ap (λ (chars : List ℕ). map Char chars ++ context) (front_taken (drop kept front) (characters context) _ (omega (arith, size)))
      ∙ sym (within_front front context kept within)
]

-- the items at the end of a sound list, by its characters and its context
seen_end : (items context : List Item) (kept : ℕ) → IsSound items → window items ≡ context → kept ≤ length (characters items)
    → end_items (drop kept (characters items)) context ≡ items_after kept items
seen_end items context kept sound seen h =
    let front : List ℕ = characters (without_last 64 items) in
    let whole : map Char front ++ context ≡ items
    = ap (λ (last : List Item). map Char front ++ last) (sym seen)
    ∙ ap (λ (xs : List Item). xs ++ window items) (map-characters (without_last 64 items) sound)
    ∙ without_last-append-last 64 items in
    let text : characters items ≡ front ++ characters context
    = ap characters (sym whole) ∙ characters-append (map Char front) context
    ∙ ap (λ (cs : List ℕ). cs ++ characters context) (characters-map front) in
    let size : length (characters items) ≡ length front + length (characters context)
    = ap length text ∙ length-append front (characters context) in
    ap (λ (cs : List ℕ). end_items (drop kept cs) context) text
    ∙ end_is front context kept (omega (arith, h, size))
    ∙ ap (items_after kept) whole

pub contexts_show_put_items : ContextsShowPutItems
unfolding put_between
contexts_show_put_items old new deleted put before after h =
    let kept : ℕ = common_prefix (characters old) (characters new) in
    let few : (kept ≤ length (characters old)) × (kept ≤ length (characters new)) = common_prefix_len-le eqb (characters old) (characters new) in
    let first : end_items deleted before ≡ items_after kept old
    = ap (λ (cs : List ℕ). end_items cs before) (sym h.deleted) ∙ seen_end old before kept h.old_sound h.before few.0 in
    let second : end_items put after ≡ items_after kept new
    = ap (λ (cs : List ℕ). end_items cs after) (sym h.put) ∙ seen_end new after kept h.new_sound h.after few.1 in
    λ i. without_common (first i) (second i)

-- an item before a list is passed over with one character less if it is one
pub after_item : (n : ℕ) (x : Item) (items : List Item) → 0 < n → items_after (characters_left n x) items ≡ items_after n (x ∷ items)
after_item zero x items h = absurd (omega (arith, h))
after_item (suc n) (Char c) items h = let one : suc n - 1 ≡ n = omega arith in rw one refl
after_item (suc n) (Mark m) items h = refl

-- the items after a number of characters, one item further
pub after_next : (count n m at : ℕ) (items : List Item) (d : Item) → at < length items → 0 < n → m ≡ characters_left n (get_or items at d)
    → items_after n (drop at items) ≡ items_after count items → items_after m (drop (at + 1) items) ≡ items_after count items
after_next count n m at items d within some is whole =
    ap (λ (k : ℕ). items_after k (drop (at + 1) items)) is
    ∙ after_item n (get_or items at d) (drop (at + 1) items) some
    ∙ sym (ap (items_after n) (drop_more items at d within))
    ∙ whole

-- no items are after characters of an empty list
pub none_after : (n : ℕ) → items_after n [] ≡ []
none_after zero = refl
none_after (suc n) = refl

-- where one list ends, both have nothing more in common
pub common_ended : (count : ℕ) (old new : List Item) → length old ≤ count → common_prefix_len same_item (drop count old) (drop count new) ≡ 0
common_ended count old new e = ap (λ xs. common_prefix_len same_item xs (drop count new)) (drop_all count old e)

nothing_common : (xs : List Item) → common_prefix_len same_item xs [] ≡ 0
nothing_common [] = refl
nothing_common (x ∷ xs) = refl

pub common_other_ended : (count : ℕ) (old new : List Item) → length new ≤ count → common_prefix_len same_item (drop count old) (drop count new) ≡ 0
common_other_ended count old new e = ap (common_prefix_len same_item (drop count old)) (drop_all count new e) ∙ nothing_common (drop count old)

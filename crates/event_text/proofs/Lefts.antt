-- The left list, by its text and its cached items.
use Rattle.std.proofs.Common.{◌≡◌, ℕ, ◌+◌, ◌-◌, ◌≤◌, List, [], ◌∷◌, ◌++◌, length, drop, take, map, reverse, cond, refl, sym, ◌∙◌, ap, subst, arith, length-append}
use Rattle.std.specs.List.{suffix_len, prefix_len}
use Rattle.std.proofs.lemmas.List.{take-append-drop, reverse-append}
use mathlib.Core.List.{reverse_aux}
use Rattle.kmn_base.specs.declared.items.Item.{Item}
use Rattle.kmn_base.specs.declared.items.Item.TheVariants.{Char}
use Rattle.kmn_base.specs.Lists.{characters, is_mark, without_last, window, put, read_again}
use Rattle.kmn_base.proofs.Lists.{characters-append, characters-map, length-window, without_last-append-last}
use Rattle.kmn_base.proofs.ReadingAgain.{without_last_at, reading_again_is_sound, reading_again_gives_the_text}
use Rattle.context_cache.specs.Cached.{text_with_context, filled, EndsText}
use Rattle.context_cache.proofs.Cached.{puts_are_of_the_list, takes_are_of_the_list, filling_keeps_the_list, the_list_is_its_text_and_window}

-- an item is put
pub put_one : (text : List ℕ) (cache : List Item) (item : Item) → EndsText cache text
    → text_with_context (text ++ characters (item ∷ [])) (window (cache ++ item ∷ [])) ≡ put (text_with_context text cache) item
put_one text cache item h = sym (puts_are_of_the_list text cache item h).0

pub put_stands : (text : List ℕ) (cache : List Item) (item : Item) (after : List ℕ) (left : List Item) → EndsText cache text
    → after ≡ text ++ characters (item ∷ []) → left ≡ window (cache ++ item ∷ []) → EndsText left after
put_stands text cache item after left h is same =
    subst (λ (t : List ℕ). EndsText left t) (sym is)
    (subst (λ (xs : List Item). EndsText xs (text ++ characters (item ∷ []))) (sym same) (puts_are_of_the_list text cache item h).1)

-- cached items are taken
pub taken : (text : List ℕ) (cache : List Item) (n : ℕ) → EndsText cache text → n ≤ length cache
    → text_with_context (without_last (length (characters (drop (length cache - n) cache))) text) (without_last n cache) ≡ without_last n (text_with_context text cache)
taken text cache n h within = sym (takes_are_of_the_list text cache n h within).0

pub taken_stands : (text : List ℕ) (cache : List Item) (n : ℕ) (after : List ℕ) (left : List Item) → EndsText cache text → n ≤ length cache
    → after ≡ without_last (length (characters (drop (length cache - n) cache))) text → left ≡ without_last n cache → EndsText left after
taken_stands text cache n after left h within is same =
    subst (λ (t : List ℕ). EndsText left t) (sym is)
    (subst (λ (xs : List Item). EndsText xs (without_last (length (characters (drop (length cache - n) cache))) text)) (sym same)
    (takes_are_of_the_list text cache n h within).1)

pub gone_within : (text : List ℕ) (cache : List Item) (n : ℕ) → EndsText cache text → length (characters (drop (length cache - n) cache)) ≤ length text
gone_within text cache n h =
    let at : ℕ = length cache - n in
    let parts : characters cache ≡ characters (take at cache) ++ characters (drop at cache)
    = ap characters (sym (take-append-drop at cache)) ∙ characters-append (take at cache) (drop at cache) in
    omega (
      arith,
      ap length parts,
      length-append (characters (take at cache)) (characters (drop at cache)),
      ap length h.is,
      length-append (without_last (length (characters cache)) text) (characters cache),
    )

-- the cache is filled
pub filled_up : (text : List ℕ) (cache : List Item) → EndsText cache text → text_with_context text (filled text cache) ≡ text_with_context text cache
filled_up text cache h = (filling_keeps_the_list text cache h).0

pub filled_stands : (text : List ℕ) (cache : List Item) → EndsText cache text → EndsText (filled text cache) text
filled_stands text cache h = (filling_keeps_the_list text cache h).1

-- the characters of the list are the text
pub characters_are : (text : List ℕ) (cache : List Item) → EndsText cache text → characters (text_with_context text cache) ≡ text
characters_are text cache h =
    let front : List ℕ = without_last (length (characters cache)) text in
    characters-append (map Char front) cache ∙ (ap (λ (cs : List ℕ). cs ++ characters cache) (characters-map front) ∙ h.is)

-- an event begins on a text that is read again
pub begun : (known : List Item) (text : List ℕ) → text_with_context text (window (read_again known text)) ≡ read_again known text
begun known text =
    let items : List Item = read_again known text in
    ap (λ (t : List ℕ). text_with_context t (window items)) (sym (reading_again_gives_the_text known text))
    ∙ the_list_is_its_text_and_window items (reading_again_is_sound known text)

begun_at_end : (known : List Item) (text : List ℕ) → EndsText (window (read_again known text)) text
begun_at_end known text =
    let items : List Item = read_again known text in
    let last : List Item = window items in
    let parts : text ≡ characters (without_last 64 items) ++ characters last
    = sym (reading_again_gives_the_text known text) ∙ (ap characters (sym (without_last-append-last 64 items)) ∙ characters-append (without_last 64 items) last) in
    let front : without_last (length (characters last)) text ≡ characters (without_last 64 items)
    = ap (without_last (length (characters last))) parts ∙ without_last_at (characters (without_last 64 items)) (characters last) (length (characters last)) refl in
    record {
      few = omega (arith, length-window items);
      is = ap (λ (t : List ℕ). t ++ characters last) front ∙ sym parts;
    }

pub begun_stands : (known : List Item) (text : List ℕ) (left : List Item) (after : List ℕ) → left ≡ window (read_again known text) → after ≡ text → EndsText left after
begun_stands known text left after same is =
    subst (λ (t : List ℕ). EndsText left t) (sym is) (subst (λ (xs : List Item). EndsText xs text) (sym same) (begun_at_end known text))

-- the marks at the end are cached, since all items before the cache are characters
map_reverse_aux : (xs done : List ℕ) → map Char (reverse_aux xs done) ≡ reverse_aux (map Char xs) (map Char done)
map_reverse_aux [] done = refl
map_reverse_aux (x ∷ xs) done = map_reverse_aux xs (x ∷ done)

prefix_before : (xs ys : List Item) → prefix_len is_mark ys ≡ 0 → prefix_len is_mark (xs ++ ys) ≡ prefix_len is_mark xs
prefix_before [] ys none = none
prefix_before (x ∷ xs) ys none = ap (λ (n : ℕ). cond (is_mark x) (1 + n) 0) (prefix_before xs ys none)

no_marks : (text : List ℕ) → prefix_len is_mark (map Char text) ≡ 0
no_marks [] = refl
no_marks (c ∷ text) = refl

pub marks_at_hand : (text : List ℕ) (cache : List Item) → EndsText cache text → suffix_len is_mark cache ≡ suffix_len is_mark (text_with_context text cache)
marks_at_hand text cache h =
    let front : List ℕ = without_last (length (characters cache)) text in
    let none : prefix_len is_mark (reverse (map Char front)) ≡ 0 = ap (prefix_len is_mark) (sym (map_reverse_aux front [])) ∙ no_marks (reverse front) in
    sym (ap (prefix_len is_mark) (reverse-append (map Char front) cache) ∙ prefix_before (reverse cache) (reverse (map Char front)) none)

-- if no item is cached after filling, the list is empty
pub none_in : (items : List Item) → length items ≡ 0 → items ≡ without_last 1 items
none_in [] e = refl
none_in (x ∷ items) e = absurd (omega arith)

pub none_left : (text : List ℕ) (cache : List Item) → EndsText cache text → length (window (text_with_context text cache)) ≡ 0 → text_with_context text cache ≡ without_last 1 (text_with_context text cache)
none_left text cache h none = none_in (text_with_context text cache) (omega (arith, length-window (text_with_context text cache), none))

-- The effect of puts, takes and refills on the list whose last items are cached.
use Rattle.std.proofs.Common.{◌≡◌, ℕ, ◌-◌, ◌<◌, ◌≤◌, List, [], ◌∷◌, ◌++◌, length, drop, take, map, refl, sym, ◌∙◌, ap, subst, inl, inr, arith, length-append, length-drop, append_assoc}
use Rattle.std.proofs.lemmas.Bool.{cases_lt}
use Rattle.std.proofs.lemmas.List.{take-append-drop, length-take}
use Rattle.kmn_base.specs.declared.items.Item.{Item}
use Rattle.kmn_base.specs.declared.items.Item.TheVariants.{Char}
use Rattle.kmn_base.specs.Lists.{characters, without_last, window, IsSound, put}
use Rattle.kmn_base.proofs.Lists.{characters-append, characters-map, unmarked, map-characters, without_last-append-last, window_short, window_at, length-window, IsSound_from_front}
use Rattle.kmn_base.proofs.ReadingAgain.{without_last_at}
use Rattle.context_cache.specs.Cached.{text_with_context, filled, EndsText}
use Rattle.context_cache.specs.CacheLaws.{PutsAreOfTheList, TakesAreOfTheList, FillingKeepsTheList, TheListIsItsTextAndWindow}

-- a text whose last characters are the characters of at most 64 items
record IsCached (text : List ℕ) (cache : List Item) : Type 0 where
  few : length cache ≤ 64
  front : List ℕ
  is : text ≡ front ++ characters cache

cached_from : (text : List ℕ) (cache : List Item) → EndsText cache text → IsCached text cache
cached_from text cache h = record { few = h.few; front = without_last (length (characters cache)) text; is = sym h.is }

cached_stands : (text : List ℕ) (cache : List Item) → IsCached text cache → EndsText cache text
cached_stands text cache h = record {
  few = h.few;
  is = ap (λ (t : List ℕ). without_last (length (characters cache)) t ++ characters cache) h.is
      ∙ (ap (λ (t : List ℕ). t ++ characters cache) (without_last_at h.front (characters cache) (length (characters cache)) refl) ∙ sym h.is);
}

-- the list by its front
whole_is : (front : List ℕ) (cache : List Item) → text_with_context (front ++ characters cache) cache ≡ map Char front ++ cache
whole_is front cache = ap (λ (cs : List ℕ). map Char cs ++ cache) (without_last_at front (characters cache) (length (characters cache)) refl)

whole_front : (text : List ℕ) (cache : List Item) (h : IsCached text cache) → text_with_context text cache ≡ map Char h.front ++ cache
whole_front text cache h = ap (λ (t : List ℕ). text_with_context t cache) h.is ∙ whole_is h.front cache

-- a sound list is unchanged if its marks before the window are removed
tidy : (items : List Item) → IsSound items → map Char (characters (without_last 64 items)) ++ window items ≡ items
tidy items sound = ap (λ (xs : List Item). xs ++ window items) (map-characters (without_last 64 items) sound) ∙ without_last-append-last 64 items

-- an item is put while there are fewer than 64
put_room : (front : List ℕ) (cache : List Item) (i : Item) → length cache < 64 → put (map Char front ++ cache) i ≡ map Char front ++ (cache ++ i ∷ [])
put_room front cache i room =
    let more : List Item = cache ++ i ∷ [] in
    let all : (map Char front ++ cache) ++ i ∷ [] ≡ map Char front ++ more = append_assoc (map Char front) cache (i ∷ []) in
    let sound : IsSound (map Char front ++ more) = IsSound_from_front (map Char front) more (unmarked front) (omega (arith, length-append cache (i ∷ []))) in
    ap (λ (xs : List Item). map Char (characters (without_last 64 xs)) ++ window xs) all ∙ tidy (map Char front ++ more) sound

-- putting an item after 64 others moves the first of them to the text before the cache
put_full : (front : List ℕ) (x : Item) (rest : List Item) (i : Item) → length (x ∷ rest) ≡ 64
    → put (map Char front ++ x ∷ rest) i ≡ map Char (front ++ characters (x ∷ [])) ++ (rest ++ i ∷ [])
put_full front x rest i full =
    let more : List Item = rest ++ i ∷ [] in
    let before : List Item = map Char front ++ x ∷ [] in
    let count : length more ≡ 64 = omega (arith, length-append rest (i ∷ []), full) in
    let all : (map Char front ++ x ∷ rest) ++ i ∷ [] ≡ before ++ more
    = append_assoc (map Char front) (x ∷ rest) (i ∷ []) ∙ sym (append_assoc (map Char front) (x ∷ []) more) in
    let parted : without_last 64 (before ++ more) ≡ before = without_last_at before more 64 count in
    let text : characters before ≡ front ++ characters (x ∷ [])
    = characters-append (map Char front) (x ∷ []) ∙ ap (λ (cs : List ℕ). cs ++ characters (x ∷ [])) (characters-map front) in
    ap (λ (xs : List Item). map Char (characters (without_last 64 xs)) ++ window xs) all
    ∙ ap (λ (xs : List Item). map Char (characters xs) ++ window (before ++ more)) parted
    ∙ ap (λ (cs : List ℕ). map Char cs ++ window (before ++ more)) text
    ∙ ap (λ (xs : List Item). map Char (front ++ characters (x ∷ [])) ++ xs) (window_at before more count)

-- after a put, the character of the item follows the text, and the cache is the window of the old cache and the item
record PutsCached (text : List ℕ) (cache : List Item) (i : Item) : Type 0 where
  cached : IsCached (text ++ characters (i ∷ [])) (window (cache ++ i ∷ []))
  same : put (text_with_context text cache) i ≡ text_with_context (text ++ characters (i ∷ [])) (window (cache ++ i ∷ []))

puts_from : (front : List ℕ) (cache : List Item) (i : Item) → length cache ≤ 64 → PutsCached (front ++ characters cache) cache i
puts_from front cache i few = elim (cases_lt (length cache) 64) [
  | inl room ↦
      let more : List Item = cache ++ i ∷ [] in
      let short : window more ≡ more = window_short more (omega (arith, length-append cache (i ∷ []))) in
      let text : (front ++ characters cache) ++ characters (i ∷ []) ≡ front ++ characters more
      = append_assoc front (characters cache) (characters (i ∷ [])) ∙ ap (λ (cs : List ℕ). front ++ cs) (sym (characters-append cache (i ∷ []))) in
      let at_more : text_with_context ((front ++ characters cache) ++ characters (i ∷ [])) more ≡ map Char front ++ more
      = ap (λ (t : List ℕ). text_with_context t more) text ∙ whole_is front more in
      record {
        cached = record {
          few = omega (arith, length-window more);
          front = front;
          is = text ∙ ap (λ (xs : List Item). front ++ characters xs) (sym short);
        };
        same = ap (λ (xs : List Item). put xs i) (whole_is front cache) ∙ put_room front cache i room ∙ sym at_more
            ∙ ap (text_with_context ((front ++ characters cache) ++ characters (i ∷ []))) (sym short);
      }
  | inr full ↦ at_full cache (omega arith)
]
  where
    at_full : (cache : List Item) → length cache ≡ 64 → PutsCached (front ++ characters cache) cache i
    at_full [] h = absurd (omega arith)
    at_full (x ∷ rest) h =
        let more : List Item = rest ++ i ∷ [] in
        let before : List ℕ = front ++ characters (x ∷ []) in
        let count : length more ≡ 64 = omega (arith, length-append rest (i ∷ []), h) in
        let last : window ((x ∷ rest) ++ i ∷ []) ≡ more = window_at (x ∷ []) more count in
        let split : characters (x ∷ rest) ≡ characters (x ∷ []) ++ characters rest = characters-append (x ∷ []) rest in
        let text : (front ++ characters (x ∷ rest)) ++ characters (i ∷ []) ≡ before ++ characters more
        = ap (λ (cs : List ℕ). (front ++ cs) ++ characters (i ∷ [])) split
        ∙ ap (λ (cs : List ℕ). cs ++ characters (i ∷ [])) (sym (append_assoc front (characters (x ∷ [])) (characters rest)))
        ∙ append_assoc before (characters rest) (characters (i ∷ []))
        ∙ ap (λ (cs : List ℕ). before ++ cs) (sym (characters-append rest (i ∷ []))) in
        let at_more : text_with_context ((front ++ characters (x ∷ rest)) ++ characters (i ∷ [])) more ≡ map Char before ++ more
        = ap (λ (t : List ℕ). text_with_context t more) text ∙ whole_is before more in
        record {
          cached = record {
            few = omega (arith, length-window ((x ∷ rest) ++ i ∷ []));
            front = before;
            is = text ∙ ap (λ (xs : List Item). before ++ characters xs) (sym last);
          };
          same = ap (λ (xs : List Item). put xs i) (whole_is front (x ∷ rest)) ∙ put_full front x rest i h ∙ sym at_more
              ∙ ap (text_with_context ((front ++ characters (x ∷ rest)) ++ characters (i ∷ []))) (sym last);
        }

puts_cached : (text : List ℕ) (cache : List Item) (i : Item) → IsCached text cache → PutsCached text cache i
puts_cached text cache i h = subst (λ (t : List ℕ). PutsCached t cache i) (sym h.is) (puts_from h.front cache i h.few)

-- taking n of the cached items removes as many characters of the text as there are among them
record TakesCached (text : List ℕ) (cache : List Item) (n count : ℕ) : Type 0 where
  cached : IsCached (without_last count text) (without_last n cache)
  same : without_last n (text_with_context text cache) ≡ text_with_context (without_last count text) (without_last n cache)

takes_from : (front : List ℕ) (cache : List Item) (n : ℕ) → length cache ≤ 64 → n ≤ length cache
    → TakesCached (front ++ characters cache) cache n (length (characters (drop (length cache - n) cache)))
takes_from front cache n few within =
    let at : ℕ = length cache - n in
    let kept : List Item = take at cache in
    let gone : List Item = drop at cache in
    let parts : characters cache ≡ characters kept ++ characters gone = ap characters (sym (take-append-drop at cache)) ∙ characters-append kept gone in
    let text : front ++ characters cache ≡ (front ++ characters kept) ++ characters gone
    = ap (λ (cs : List ℕ). front ++ cs) parts ∙ sym (append_assoc front (characters kept) (characters gone)) in
    let left : without_last (length (characters gone)) (front ++ characters cache) ≡ front ++ characters kept
    = ap (without_last (length (characters gone))) text ∙ without_last_at (front ++ characters kept) (characters gone) _ refl in
    let items : without_last n (map Char front ++ cache) ≡ map Char front ++ kept
    = ap (without_last n) (ap (λ (xs : List Item). map Char front ++ xs) (sym (take-append-drop at cache)) ∙ sym (append_assoc (map Char front) kept gone))
    ∙ without_last_at (map Char front ++ kept) gone n (omega (arith, length-drop at cache)) in
    record {
      cached = record { few = omega (arith, length-take at cache); front = front; is = left };
      same = ap (without_last n) (whole_is front cache) ∙ items ∙ sym (ap (λ (t : List ℕ). text_with_context t kept) left ∙ whole_is front kept);
    }

takes_cached : (text : List ℕ) (cache : List Item) (n : ℕ) → IsCached text cache → n ≤ length cache
    → TakesCached text cache n (length (characters (drop (length cache - n) cache)))
takes_cached text cache n h within =
    subst (λ (t : List ℕ). TakesCached t cache n (length (characters (drop (length cache - n) cache)))) (sym h.is) (takes_from h.front cache n h.few within)

-- refilling does not change the list, and the cached items are then its window
record FillsCached (text : List ℕ) (cache : List Item) : Type 0 where
  cached : IsCached text (filled text cache)
  same : text_with_context text cache ≡ text_with_context text (filled text cache)

fills_cached : (text : List ℕ) (cache : List Item) → IsCached text cache → FillsCached text cache
fills_cached text cache h =
    let items : List Item = text_with_context text cache in
    let by_front : items ≡ map Char h.front ++ cache = whole_front text cache h in
    let sound : IsSound items = subst IsSound (sym by_front) (IsSound_from_front (map Char h.front) cache (unmarked h.front) h.few) in
    let front : List ℕ = characters (without_last 64 items) in
    let again : map Char front ++ window items ≡ items = tidy items sound in
    let chars : characters items ≡ text
    = ap characters by_front ∙ characters-append (map Char h.front) cache ∙ ap (λ (cs : List ℕ). cs ++ characters cache) (characters-map h.front) ∙ sym h.is in
    let is : text ≡ front ++ characters (window items)
    = sym chars ∙ ap characters (sym again) ∙ characters-append (map Char front) (window items) ∙ ap (λ (cs : List ℕ). cs ++ characters (window items)) (characters-map front) in
    record {
      cached = record { few = omega (arith, length-window items); front = front; is = is };
      same = sym again ∙ sym (ap (λ (t : List ℕ). text_with_context t (window items)) is ∙ whole_is front (window items));
    }

-- a sound list consists of its text and its window
whole_of_window : (items : List Item) → IsSound items → text_with_context (characters items) (window items) ≡ items
whole_of_window items sound =
    let front : List ℕ = characters (without_last 64 items) in
    let parts : characters items ≡ front ++ characters (window items)
    = ap characters (sym (without_last-append-last 64 items)) ∙ characters-append (without_last 64 items) (window items) in
    ap (λ (t : List ℕ). text_with_context t (window items)) parts ∙ whole_is front (window items) ∙ tidy items sound

pub puts_are_of_the_list : PutsAreOfTheList
puts_are_of_the_list text items item h =
    let puts = puts_cached text items item (cached_from text items h) in
    (puts.same, cached_stands (text ++ characters (item ∷ [])) (window (items ++ item ∷ [])) puts.cached)

pub takes_are_of_the_list : TakesAreOfTheList
takes_are_of_the_list text items n h within =
    let takes = takes_cached text items n (cached_from text items h) within in
    (takes.same, cached_stands (without_last (length (characters (drop (length items - n) items))) text) (without_last n items) takes.cached)

pub filling_keeps_the_list : FillingKeepsTheList
filling_keeps_the_list text items h =
    let fills = fills_cached text items (cached_from text items h) in
    (sym fills.same, cached_stands text (filled text items) fills.cached)

pub the_list_is_its_text_and_window : TheListIsItsTextAndWindow
the_list_is_its_text_and_window = whole_of_window

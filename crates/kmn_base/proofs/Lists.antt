-- Lemmas on the text before the caret.
use Rattle.std.proofs.Common.{◌≡◌, ℕ, ◌+◌, ◌-◌, ◌<◌, ◌≤◌, min, true, false, List, [], ◌∷◌, ◌++◌, length, take, drop, map, refl, sym, ◌∙◌, ap, inl, inr, arith, length-append, length-drop}
use Rattle.std.specs.List.{All}
use Rattle.std.proofs.lemmas.List.{take-append-drop, take-append-le, drop-append-le, drop-drop, take-take, append-nil, length-take, drop_at}
use Rattle.std.proofs.lemmas.List.Elements.{All-same, All-head, All-tail, All-take, All-map}
use Rattle.std.proofs.lemmas.Bool.{cases_lt}
use Rattle.kmn_base.specs.declared.items.Item.{Item}
use Rattle.kmn_base.specs.declared.items.Item.TheVariants.{Char, Mark}
use Rattle.kmn_base.specs.Lists.{characters, is_mark, without_last, window, IsSound, put}
use Rattle.kmn_base.specs.Laws.{PutIsSound, TakingKeepsSoundness, WindowOfPut, CharactersOfPutChar, CharactersOfPutMark}

-- a list is the list without its last n items, followed by these items
pub without_last-append-last : {X : Type 0} (n : ℕ) (xs : List X) → without_last n xs ++ drop (length xs - n) xs ≡ xs
without_last-append-last n xs = take-append-drop (length xs - n) xs

pub characters-append : (xs ys : List Item) → characters (xs ++ ys) ≡ characters xs ++ characters ys
characters-append [] ys = refl
characters-append (Char c ∷ xs) ys = ap (λ cs. c ∷ cs) (characters-append xs ys)
characters-append (Mark m ∷ xs) ys = characters-append xs ys

pub characters-map : (text : List ℕ) → characters (map Char text) ≡ text
characters-map [] = refl
characters-map (c ∷ text) = ap (λ cs. c ∷ cs) (characters-map text)

pub unmarked : (text : List ℕ) → All (λ item. is_mark item ≡ false) (map Char text)
unmarked text = All-map (λ item. is_mark item ≡ false) Char text (λ k d h. refl)

-- a list without marks consists of its characters
pub map-characters : (xs : List Item) → All (λ item. is_mark item ≡ false) xs → map Char (characters xs) ≡ xs
map-characters [] h = refl
map-characters (Char c ∷ xs) h = ap (λ items. Char c ∷ items) (map-characters xs (All-tail (λ item. is_mark item ≡ false) (Char c) xs h))
map-characters (Mark m ∷ xs) h = let marked : true ≡ false = All-head (λ item. is_mark item ≡ false) (Mark m) xs h in cc

pub length-window : (xs : List Item) → length (window xs) ≡ min 64 (length xs)
length-window xs = length-drop (length xs - 64) xs ∙ omega arith

pub window_short : (xs : List Item) → length xs ≤ 64 → window xs ≡ xs
window_short xs h = let none : length xs - 64 ≡ 0 = omega arith in rw none

-- if a list ends with 64 items, they are its window
pub window_at : (front kept : List Item) → length kept ≡ 64 → window (front ++ kept) ≡ kept
window_at front kept h = drop_at front kept (length (front ++ kept) - 64) (omega (arith, length-append front kept))

-- appending moves the window along
pub window-append : (xs ys : List Item) → window (xs ++ ys) ≡ window (window xs ++ ys)
window-append xs ys =
    let a : ℕ = length xs - 64 in
    let within : a ≤ length xs = omega arith in
    let front : drop a (xs ++ ys) ≡ drop a xs ++ ys = drop-append-le a xs ys within in
    let behind : drop (length (drop a xs ++ ys) - 64) (drop a (xs ++ ys)) ≡ drop (a + (length (drop a xs ++ ys) - 64)) (xs ++ ys)
    = drop-drop (length (drop a xs ++ ys) - 64) a (xs ++ ys) in
    let places : a + (length (drop a xs ++ ys) - 64) ≡ length (xs ++ ys) - 64
    = simp (length-append, length-drop) (omega arith) in
    cc

-- items without marks, followed by at most 64 items, are a sound list
pub IsSound_from_front : (front kept : List Item) → All (λ item. is_mark item ≡ false) front → length kept ≤ 64 → IsSound (front ++ kept)
IsSound_from_front front kept h few =
    let within : length (front ++ kept) - 64 ≤ length front = omega (arith, length-append front kept) in
    let before : without_last 64 (front ++ kept) ≡ take (length (front ++ kept) - 64) front = take-append-le _ front kept within in
    All-same (λ item. is_mark item ≡ false) _ _ before (All-take (λ item. is_mark item ≡ false) _ front h)

pub put_is_sound : PutIsSound
put_is_sound items item =
    let all : List Item = items ++ item ∷ [] in
    IsSound_from_front _ (window all) (unmarked (characters (without_last 64 all))) (omega (arith, length-window all))

pub taking_keeps_soundness : TakingKeepsSoundness
taking_keeps_soundness n items h =
    let left : length (without_last n items) ≡ min (length items - n) (length items) = length-take (length items - n) items in
    let front : without_last 64 (without_last n items) ≡ take (length (without_last n items) - 64) (without_last 64 items)
    = take-take (length (without_last n items) - 64) (length items - n) items (omega arith)
    ∙ sym (take-take (length (without_last n items) - 64) (length items - 64) items (omega arith)) in
    All-same (λ item. is_mark item ≡ false) _ _ front (All-take (λ item. is_mark item ≡ false) _ (without_last 64 items) h)

-- while there are at most 64 items, no item is forgotten
pub put_short : (items : List Item) (item : Item) → length items < 64 → put items item ≡ items ++ item ∷ []
put_short items item h =
    let few : length (items ++ item ∷ []) ≤ 64 = omega (arith, length-append items (item ∷ [])) in
    let none : length (items ++ item ∷ []) - 64 ≡ 0 = omega arith in
    rw none

pub window-put : (items : List Item) (item : Item) → window (put items item) ≡ window (items ++ item ∷ [])
window-put items item = elim (cases_lt (length items) 64) [
  | inl few ↦ ap window (put_short items item few)
  | inr full ↦
      let all : List Item = items ++ item ∷ [] in
      window_at (map Char (characters (without_last 64 all))) (window all) (omega (arith, length-window all, length-append items (item ∷ [])))
]

pub window_of_put : WindowOfPut
window_of_put items item = window-put items item ∙ window-append items (item ∷ [])

pub characters_of_put : (items : List Item) (item : Item) → characters (put items item) ≡ characters (items ++ item ∷ [])
characters_of_put items item =
    let all : List Item = items ++ item ∷ [] in
    let parts : characters (put items item) ≡ characters (map Char (characters (without_last 64 all))) ++ characters (window all)
    = characters-append (map Char (characters (without_last 64 all))) (window all) in
    let front : characters (map Char (characters (without_last 64 all))) ≡ characters (without_last 64 all) = characters-map _ in
    let joined : characters (without_last 64 all) ++ characters (window all) ≡ characters (without_last 64 all ++ window all)
    = sym (characters-append (without_last 64 all) (window all)) in
    let whole : characters (without_last 64 all ++ window all) ≡ characters all = ap characters (without_last-append-last 64 all) in
    cc

pub characters_of_put_char : CharactersOfPutChar
characters_of_put_char items c = characters_of_put items (Char c) ∙ characters-append items (Char c ∷ [])

pub characters_of_put_mark : CharactersOfPutMark
characters_of_put_mark items m = characters_of_put items (Mark m) ∙ characters-append items (Mark m ∷ []) ∙ append-nil (characters items)

-- If the text before the caret is set to no characters, no mark remains before it, unless the window has 64 marks.
use Rattle.std.proofs.Common.{◌≡◌, ℕ, zero, suc, ◌-◌, ◌<◌, Bool, true, false, eqb, ltb, List, [], ◌∷◌, ◌++◌, length, take, drop, map, refl, sym, ◌∙◌, ap, inl, inr, length-append, arith}
use Rattle.std.specs.Prelude.{◌≢◌, ◌&&◌, ◌||◌, ◌⊎◌}
use Rattle.std.specs.List.{ends_with}
use Rattle.std.proofs.lemmas.Bool.{cases_Bool, ne_eqb, cond-true, cond-false, lt-ltb}
use Rattle.std.proofs.lemmas.Bool.Decides.{nat_tests}
use Rattle.std.proofs.lemmas.List.{take-append-drop}
use Rattle.kmn_base.specs.declared.items.Item.{Item}
use Rattle.kmn_base.specs.declared.items.Item.TheVariants.{Char}
use Rattle.kmn_base.specs.Lists.{characters, window, is_still_suffix, read_again}
use Rattle.kmn_base.proofs.Lists.{characters-append, length-window, window_short}
use Rattle.kmn_base.proofs.ReadingAgain.{read_again-lost, read_again-stands, is_still_suffix-true, reading_again_gives_the_text}
use Rattle.rule_model.specs.Event.{State, happening, whole_text, edited_text, moved_caret, caret_event, edit_event}
use Rattle.play_session.specs.Session.{SessionState}
use Rattle.curlew_calls.specs.Calls.{at_new_place, with_text_before}
use Rattle.curlew_calls.specs.Laws.{NoneToldLeavesNone}

neither : (a b : Bool) → b ≡ false → (a && b) ≡ false
neither true b e = e
neither false b e = refl

none_of : (a b : Bool) → a ≡ false → b ≡ false → (a || b) ≡ false
none_of true b e f = e
none_of false b e f = f

none_kept : (items : List Item) → characters items ≡ [] → length (characters (window items)) ≡ 0
none_kept items none =
    let n = length items - 64 in
    let parts : characters (take n items) ++ characters (drop n items) ≡ [] = sym (characters-append (take n items) (drop n items)) ∙ ap characters (take-append-drop n items) ∙ none in
    omega (arith, length-append (characters (take n items)) (characters (drop n items)), ap length parts)

-- if items have no characters and fewer than 64 marks, reading one character again leaves no mark next to it
lost_beside : (items : List Item) (c : ℕ) → characters items ≡ [] → (length (window items) ≡ 64 → ⊥) → read_again items (c ∷ []) ≡ Char c ∷ []
lost_beside items c none short =
    let kept = window items in
    let few : length (characters kept) ≡ 0 = none_kept items none in
    read_again-lost items (c ∷ [])
    (neither (ends_with eqb (c ∷ []) (characters kept)) _ (none_of (eqb (length kept) 64) _ (ne_eqb (length kept) 64 short) (ap (λ (n : ℕ). eqb 1 n) few)))

-- if the only character is removed, no item remains
back : (c : ℕ) → read_again (Char c ∷ []) [] ≡ []
back c = refl

-- if the caret moves over the character after it, only this character is before the caret; if it then moves back, no item is
passed : (state : State) (c : ℕ) (cs : List ℕ) → characters state.left ≡ [] → state.right ≡ c ∷ cs → (length (window state.left) ≡ 64 → ⊥) → (caret_event 1 state).left ≡ Char c ∷ []
passed state c cs none there short =
    let whole : whole_text state ≡ c ∷ cs = ap (λ (l : List ℕ). l ++ state.right) none ∙ there in
    ap (λ (w : List ℕ). read_again state.left (take 1 w)) whole ∙ lost_beside state.left c none short

passed_back : (state : State) (c : ℕ) (cs : List ℕ) → characters state.left ≡ [] → state.right ≡ c ∷ cs → (length (window state.left) ≡ 64 → ⊥) → (caret_event 0 (caret_event 1 state)).left ≡ []
passed_back state c cs none there short =
    ap (λ (l : List Item). read_again l []) (passed state c cs none there short) ∙ back c

taken : (n : ℕ) → take {A = ℕ} n [] ≡ []
taken zero = refl
taken (suc n) = refl

-- if a window has fewer than 64 items, so has the window after an empty text is read again
nothing_again : (items : List Item) → (length (window items) ≡ 64 → ⊥) → length (window (read_again items [])) ≡ 64 → ⊥
nothing_again items short full = elim (cases_Bool (is_still_suffix (window items) [])) [
  | inl stands ↦
      let is : read_again items [] ≡ window items = read_again-stands items [] stands ∙ ap (λ (l : List ℕ). map Char l ++ window items) (taken (0 - length (characters (window items)))) in
      omega (arith, short, full, length-window items, length-window (window items), ap (λ (l : List Item). length (window l)) is)
  | inr lost ↦
      let is : read_again items [] ≡ [] = read_again-lost items [] lost in
      omega (arith, full, ap (λ (l : List Item). length (window l)) is)
]

-- if an x is inserted into an empty text, passed and deleted, no item remains before the caret
x_gone : (state : State) → characters state.left ≡ [] → state.right ≡ [] → (length (window state.left) ≡ 64 → ⊥)
    → (edit_event 0 1 [] (caret_event 1 (edit_event 0 0 (0x78 ∷ []) state))).left ≡ []
x_gone state none empty short =
    let put = edit_event 0 0 (0x78 ∷ []) state in
    let whole : whole_text state ≡ [] = ap (λ (l : List ℕ). l ++ state.right) none ∙ empty in
    let start : moved_caret 0 0 1 (length (characters state.left)) ≡ 0 = ap (λ (l : List ℕ). moved_caret 0 0 1 (length l)) none in
    let left : put.left ≡ read_again state.left []
    = ap (λ (n : ℕ). read_again state.left (take n (0x78 ∷ whole_text state))) start in
    let right : put.right ≡ 0x78 ∷ []
    = ap (λ (n : ℕ). drop n (0x78 ∷ whole_text state)) start ∙ ap (λ (w : List ℕ). 0x78 ∷ w) whole in
    let characterless : characters put.left ≡ [] = ap characters left ∙ reading_again_gives_the_text state.left [] in
    let full : length (window put.left) ≡ 64 → ⊥ = λ (e : length (window put.left) ≡ 64). nothing_again state.left short (sym (ap (λ (l : List Item). length (window l)) left) ∙ e) in
    let there : (caret_event 1 put).left ≡ Char 0x78 ∷ [] = passed put 0x78 [] characterless right full in
    let behind = (caret_event 1 put).right in
    ap (λ (l : List Item). read_again l (take (moved_caret 0 1 0 (length (characters l))) (edited_text 0 1 [] (characters l ++ behind)))) there ∙ back 0x78

new_place_has_none : (session : SessionState) → characters session.state.left ≡ [] → (length (window session.state.left) ≡ 64 → ⊥) → (at_new_place session).state.left ≡ []
unfolding happening
new_place_has_none session none short = by_right session.state.right refl
  where
    by_right : (right : List ℕ) → session.state.right ≡ right → (at_new_place session).state.left ≡ []
    by_right [] is =
        ap (λ (s : SessionState). s.state.left) (cond-true (eqb (length session.state.right) 0) _ _ (ap (λ (r : List ℕ). eqb (length r) 0) is))
        ∙ x_gone session.state none is short
    by_right (c ∷ cs) is =
        ap (λ (s : SessionState). s.state.left) (cond-false (eqb (length session.state.right) 0) _ _ (ap (λ (r : List ℕ). eqb (length r) 0) is ∙ ne_eqb (suc (length cs)) 0 (λ (e : suc (length cs) ≡ 0). omega (arith, e))))
        ∙ passed_back session.state c cs none is short

-- if the window has a character, no item remains after an empty text is read again
lost_in_none : (items : List Item) → 0 < length (characters (window items)) → read_again items [] ≡ []
lost_in_none items some = elim (cases_Bool (is_still_suffix (window items) [])) [
  | inl stands ↦
      let kept = characters (window items) in
      let same = is_still_suffix-true (window items) [] stands in
      absurd (omega (arith, some, length-append (take (0 - length kept) []) kept, ap length same))
  | inr lost ↦ read_again-lost items [] lost
]

-- if all characters before the caret are deleted, the caret is at 0
all_deleted : (n : ℕ) → moved_caret 0 n 0 n ≡ 0
all_deleted n = grind (arith, nat_tests)

deletion_leaves_none : (state : State) → 0 < length (characters (window state.left)) → (edit_event 0 (length (characters state.left)) [] state).left ≡ []
deletion_leaves_none state some =
    let n = length (characters state.left) in
    ap (λ (caret : ℕ). read_again state.left (take caret (edited_text 0 n [] (whole_text state)))) (all_deleted n) ∙ lost_in_none state.left some

some_in_window : (items : List Item) (c : ℕ) (cs : List ℕ) → characters items ≡ c ∷ cs → (0 < length (characters (window items))) ⊎ (length (window items) ≢ 64) → 0 < length (characters (window items))
some_in_window items c cs there (inl some) = some
some_in_window items c cs there (inr short) =
    let all : window items ≡ items = window_short items (omega (arith, short, length-window items)) in
    omega (arith, ap length there, ap (λ (l : List Item). length (characters l)) all)

none_in_window : (items : List Item) → characters items ≡ [] → (0 < length (characters (window items))) ⊎ (length (window items) ≢ 64) → length (window items) ≡ 64 → ⊥
none_in_window items none (inl some) full = omega (arith, some, none_kept items none)
none_in_window items none (inr short) full = short full

pub told_of_none : NoneToldLeavesNone
unfolding happening
told_of_none session either = by_left (characters session.state.left) refl
  where
    by_left : (left : List ℕ) → characters session.state.left ≡ left → (with_text_before [] session).state.left ≡ []
    by_left [] is =
        ap (λ (s : SessionState). s.state.left) (cond-false (ltb 0 (length (characters session.state.left))) _ _ (ap (λ (r : List ℕ). ltb 0 (length r)) is))
        ∙ new_place_has_none session is (none_in_window session.state.left is either)
    by_left (c ∷ cs) is =
        ap (λ (s : SessionState). s.state.left) (cond-true (ltb 0 (length (characters session.state.left))) _ _ (lt-ltb 0 (length (characters session.state.left)) (omega (arith, ap length is))))
        ∙ deletion_leaves_none session.state (some_in_window session.state.left c cs is either)

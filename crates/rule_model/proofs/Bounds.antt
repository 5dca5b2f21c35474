-- The text of a trace stays within 1,000,000 characters.
use Rattle.std.proofs.Common.{◌≡◌, ℕ, ◌+◌, ◌-◌, ◌≤◌, Bool, true, false, cond, ◌||◌, List, [], ◌∷◌, ◌++◌, length, take, drop, map, eqb, ltb, leb, Option, Some, None, refl, sym, ◌∙◌, ap, subst, inl, inr, arith, length-append, length-take, length-drop}
use Rattle.std.specs.List.{position}
use Rattle.std.proofs.lemmas.Bool.{cases_Bool, cond_both, eqb-true, ltb-false, or_parts}
use Rattle.std.proofs.lemmas.List.{take-append-drop}
use Rattle.std.proofs.lemmas.Option.{none-some}
use Rattle.kmn_base.specs.declared.items.Item.{Item}
use Rattle.kmn_base.specs.declared.items.Element.{Element}
use Rattle.kmn_base.specs.declared.items.Element.TheVariants as element
use Rattle.kmn_base.specs.declared.keys.KeyPress.{KeyPress}
use Rattle.kmn_base.specs.declared.events.Event.TheVariants as event
use Rattle.kmn_base.specs.declared.codes.Code.{Code}
use Rattle.kmn_base.specs.declared.codes.Code.TheVariants.{E1, E2}
use Rattle.kmn_base.specs.Lists.{characters, without_last, put, read_again}
use Rattle.kmn_base.proofs.Lists.{characters-append}
use Rattle.kmn_base.proofs.ReadingAgain.{reading_again_gives_the_text}
use Rattle.rule_model.specs.declared.event_state.EventState.{EventState}
use Rattle.virtual_keys.specs.Fits.{is_plain}
use Rattle.rule_model.specs.KeyEvent.{begin_event, after_key}
use Rattle.rule_model.specs.Event.{State, whole_text, text_becomes, editor_left, editor_right, by_editor, after_press, has_name, set_option, caret_event, moved_caret, edited_text, edit_event, edit_refusal, happening}
use Rattle.rule_model.specs.StepLaws.{PressAddsWhatItPuts, EventKeepsTextInBounds, StepsKeepTextInBounds}
use Rattle.rule_model.proofs.Insertions.{characters-one, length-put}
use Rattle.rule_model.proofs.Kept.{IsKept, after_key_keeps}
use Rattle.rule_model.proofs.Steps.{trace_keeps}
use Rattle.rule_model.proofs.Budget.{press_is_within_budget}

-- ---- what a press adds

put_adds_one : (items : List Item) (x : Item) → length (characters (put items x)) ≤ length (characters items) + 1
put_adds_one items x =
    let counts : length (characters (put items x)) ≡ length (characters items) + length (characters (x ∷ [])) = length-put items x in
    omega (arith, characters-one x)

taking_adds_none : (n : ℕ) (items : List Item) → length (characters (without_last n items)) ≤ length (characters items)
taking_adds_none n items =
    let at : ℕ = length items - n in
    let parts : characters (take at items) ++ characters (drop at items) ≡ characters items
    = sym (characters-append (take at items) (drop at items)) ∙ ap characters (take-append-drop at items) in
    let counts : length (characters (take at items)) + length (characters (drop at items)) ≡ length (characters items)
    = sym (length-append (characters (take at items)) (characters (drop at items))) ∙ ap length parts in
    omega arith

-- a state has at most as many characters as the first state and the items that were put
abbrev Adds : ℕ → EventState → Type 0
Adds n s = length (characters s.left) ≤ n + s.put

adding_kept : (n : ℕ) → IsKept (Adds n)
adding_kept n = record {
  puts = λ x s h.
      cond_both s.stopped _ _ (Adds n) (λ _. h)
      (λ _. cond_both (leb 4096 s.put) _ _ (Adds n) (λ _. h) (λ _. omega (arith, put_adds_one s.left x)));
  takes = λ k s h. omega (arith, taking_adds_none k s.left);
  stops = λ s h. h;
  passes = λ s h. h;
  beeps = λ s h. h;
  sets = λ values s h. h;
  saves = λ values s h. h;
  enters = λ s few h. h;
}

pub press_adds_what_it_puts : PressAddsWhatItPuts
press_adds_what_it_puts kb press left current saved =
    let n : ℕ = length (characters left) in
    after_key_keeps (Adds n) (adding_kept n) kb press (begin_event left current saved) (omega arith) (omega arith)

-- ---- the editor's default

-- the text of a state has at most n characters
abbrev HasAtMost : ℕ → State → Type 0
HasAtMost n state = length (whole_text state) ≤ n

length-whole_text : (state : State) → length (whole_text state) ≡ length (characters state.left) + length state.right
length-whole_text state = length-append (characters state.left) state.right

length-text_becomes : (left right : List ℕ) (state : State) → length (whole_text (text_becomes left right state)) ≡ length left + length right
length-text_becomes left right state =
    length-append (characters (read_again state.left left)) right ∙ ap (λ (cs : List ℕ). length cs + length right) (reading_again_gives_the_text state.left left)

abbrev pub EditorAddsOne : List ℕ → List ℕ → ℕ → Type 0
EditorAddsOne left right code = length (editor_left code left right) + length (editor_right code left right) ≤ length left + length right + 1

at_code : (left right : List ℕ) (n code : ℕ) → eqb code n ≡ true → EditorAddsOne left right n → EditorAddsOne left right code
at_code left right n code e h = subst (λ (m : ℕ). EditorAddsOne left right m) (sym (eqb-true code n e)) h

pub editor_adds_one : (code : ℕ) (left right : List ℕ) → EditorAddsOne left right code
editor_adds_one code left right = elim (cases_Bool (eqb code 13)) [
  | inl enter ↦ at_code left right 13 code enter (simp length-append (omega arith))
  | inr e13 ↦ elim (cases_Bool (eqb code 9)) [
    | inl tab ↦ at_code left right 9 code tab (simp length-append (omega arith))
    | inr e9 ↦ elim (cases_Bool (eqb code 37)) [
      | inl back ↦ at_code left right 37 code back (simp (length-append, length-take, length-drop) (omega arith))
      | inr e37 ↦ elim (cases_Bool (eqb code 39)) [
        | inl forth ↦ at_code left right 39 code forth (simp (length-append, length-take, length-drop) (omega arith))
        | inr e39 ↦ elim (cases_Bool (eqb code 36)) [
          | inl home ↦ at_code left right 36 code home (simp length-append (omega arith))
          | inr e36 ↦ elim (cases_Bool (eqb code 35)) [
            | inl end ↦ at_code left right 35 code end (simp length-append (omega arith))
            | inr e35 ↦ elim (cases_Bool (eqb code 46)) [
              | inl delete ↦ at_code left right 46 code delete (simp length-drop (omega arith))
              | inr e46 ↦ simp (e13, e9, e37, e39, e36, e35, e46) (omega arith)
            ]
          ]
        ]
      ]
    ]
  ]
]

editor_has_at_most : (n : ℕ) (press : KeyPress) (state : State) → HasAtMost n state → HasAtMost (n + 1) (by_editor press state)
editor_has_at_most n press state h =
    let left : List ℕ = characters state.left in
    let before : length left + length state.right ≤ n = omega (arith, length-whole_text state) in
    cond_both (is_plain press) _ _ (HasAtMost (n + 1))
    (λ _. omega (arith, length-text_becomes (editor_left press.code left state.right) (editor_right press.code left state.right) state, editor_adds_one press.code left state.right))
    (λ _. omega (arith, length-text_becomes left state.right state))

press_has_at_most : (n : ℕ) (press : KeyPress) (s : EventState) (state : State) → length (characters s.left) + length state.right ≤ n → HasAtMost (n + 1) (after_press press s state)
press_has_at_most n press s state h =
    let acted : State = record state { left = s.left; current = s.current; saved = s.saved } in
    let now : HasAtMost n acted = omega (arith, length-whole_text acted) in
    cond_both s.pass _ _ (HasAtMost (n + 1)) (λ _. editor_has_at_most n press acted now) (λ _. omega arith)

-- ---- other events

setting_has_at_most : (n : ℕ) (option : Option ℕ) (value : List Element) (state : State) → HasAtMost n state → HasAtMost n (set_option option value state)
setting_has_at_most n None value state h = h
setting_has_at_most n (Some option) value state h = h

-- a text split at a position has the same length
length-parted : (place : ℕ) (whole : List ℕ) → length (take place whole) + length (drop place whole) ≡ length whole
length-parted place whole = sym (length-append (take place whole) (drop place whole)) ∙ ap length (take-append-drop place whole)

caret_has_at_most : (n place : ℕ) (state : State) → HasAtMost n state → HasAtMost n (caret_event place state)
caret_has_at_most n place state h =
    omega (arith, length-text_becomes (take place (whole_text state)) (drop place (whole_text state)) state, length-parted place (whole_text state))

-- if neither of two tests refuses, both pass
not_refused : (test : Bool) (code : Code) (rest : Option Code) → cond test (Some code) rest ≡ None → (test ≡ false) × (rest ≡ None)
not_refused true code rest e = absurd (none-some code (sym e))
not_refused false code rest e = (refl, e)

allowed_edit : (from to count whole : ℕ) → edit_refusal from to count whole ≡ None → (from ≤ to) × (to ≤ whole) × (whole - (to - from) + count ≤ 1_000_000)
allowed_edit from to count whole e =
    let parts = not_refused (ltb to from || ltb whole to) E1 _ e in
    let places = or_parts (ltb to from) (ltb whole to) parts.0 in
    let size = not_refused (ltb 1_000_000 (whole - (to - from) + count)) E2 None parts.1 in
    (ltb-false to from places.0, ltb-false whole to places.1, ltb-false 1_000_000 (whole - (to - from) + count) size.0)

edit_has_at_most : (from to : ℕ) (text : List ℕ) (state : State) → edit_refusal from to (length text) (length (whole_text state)) ≡ None → HasAtMost 1_000_000 (edit_event from to text state)
edit_has_at_most from to text state e =
    let whole : List ℕ = edited_text from to text (whole_text state) in
    let caret : ℕ = moved_caret from to (length text) (length (characters state.left)) in
    let allowed = allowed_edit from to (length text) (length (whole_text state)) e in
    let counts : length whole ≡ length (take from (whole_text state)) + length text + length (drop to (whole_text state)) = simp length-append in
    omega (arith, length-text_becomes (take caret whole) (drop caret whole) state, length-parted caret whole, length-take from (whole_text state), length-drop to (whole_text state), allowed.0, allowed.1, allowed.2)

pub event_keeps_text_in_bounds : EventKeepsTextInBounds
unfolding happening
event_keeps_text_in_bounds kb state (event.Key press) allowed h =
    let s : EventState = after_key kb press (begin_event state.left state.current state.saved) in
    let few : length (whole_text state) ≤ 995_000 = ltb-false 995_000 (length (whole_text state)) (not_refused (ltb 995_000 (length (whole_text state))) E2 None allowed).0 in
    let budget : s.put ≤ 4096 = (press_is_within_budget kb press state.left state.current state.saved).items in
    let added : length (characters s.left) ≤ length (characters state.left) + s.put = press_adds_what_it_puts kb press state.left state.current state.saved in
    let now : HasAtMost (999_096 + 1) (after_press press s state) = press_has_at_most 999_096 press s state (omega (arith, length-whole_text state)) in
    omega arith
event_keeps_text_in_bounds kb state (event.Setting name value) allowed h = setting_has_at_most 1_000_000 (position (has_name name) state.names) (map element.Char value) state h
event_keeps_text_in_bounds kb state (event.Caret place) allowed h = caret_has_at_most 1_000_000 place state h
event_keeps_text_in_bounds kb state (event.Edit from to text) allowed h = edit_has_at_most from to text state allowed

pub steps_keep_text_in_bounds : StepsKeepTextInBounds
steps_keep_text_in_bounds kb events =
    trace_keeps (HasAtMost 1_000_000) (λ happened. HasAtMost 1_000_000 happened.after) kb
    (λ state happened allowed h. (event_keeps_text_in_bounds kb state happened allowed h, event_keeps_text_in_bounds kb state happened allowed h)) (omega arith) events

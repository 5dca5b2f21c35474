-- If a record holds, the key press and the last item can match its class.
use Rattle.std.proofs.Common.{◌≡◌, ◌⊎◌, ℕ, zero, suc, ◌+◌, Bool, true, false, List, [], ◌∷◌, ◌++◌, length, drop, ◌-◌, Option, Some, None, eqb, inl, inr, sym, refl, ◌∙◌, ap, subst, arith}
use Rattle.std.specs.Prelude.{slice_get, ◌&&◌}
use Rattle.std.specs.List.{list_all}
use Rattle.std.specs.Option.{option_map_or}
use Rattle.std.proofs.lemmas.Bool.{cases_Bool, cond-true, cond-false, eqb-true}
use Rattle.kmn_base.specs.declared.items.Item.{Item}
use Rattle.kmn_base.specs.declared.items.Item.TheVariants as item
use Rattle.kmn_base.specs.declared.keys.RuleKey.{RuleKey}
use Rattle.kmn_base.specs.declared.keys.RuleKey.TheVariants as key
use Rattle.kmn_base.specs.declared.keys.KeyPress.{KeyPress}
use Rattle.virtual_keys.specs.Fits.{char_of_press, key_fits, flags_fit}
use Rattle.rule_model.specs.declared.event_state.Catch.{Catch}
use Rattle.rule_model.specs.declared.event_state.Caught.{Caught}
use Rattle.rule_model.specs.Keyboard.{Pattern, IsChar, IsMark, IsAny, IsNotAny, IsIndex, IsContextAt, IfEqual, IfUnequal, AtStart, KeyPattern, OneKey, KeyIn, RuleMeaning}
use Rattle.rule_model.specs.Match.{Content, takes_item, matches, place_for, nothing_caught, catch_item, catches_from}
use Rattle.rule_model.specs.Hold.{is_true, has_room, pattern_count, caught_by, holds}
use Rattle.rule_model.proofs.CaughtParts.{fitting_place}
use Rattle.rule_model.proofs.CaughtParts.{caught_parts}
use Rattle.rule_index.specs.Laws.{HoldingIsWanted}
use Rattle.rule_index.specs.Classes.{key_class, key_part, pattern_class, last_class, given_class, item_class, last_item, class_of}

-- an item can match a part: 0, or the part of the item
abbrev pub Meets : Option Item → ℕ → Type 0
Meets o class = (class ≡ 0) ⊎ (class ≡ item_class o)

pattern_met : (content : Content) (seen : List Catch) (p : Pattern) (x : Item) → matches content seen p x ≡ true → Meets (Some x) (pattern_class p)
pattern_met content seen (IsChar c) (item.Char d) e = inr (ap (λ (n : ℕ). 1 + n) (sym (eqb-true d c e)))
pattern_met content seen (IsChar c) (item.Mark m) e = let absurd_case : false ≡ true = e in cc
pattern_met content seen (IsMark n) (item.Char d) e = let absurd_case : false ≡ true = e in cc
pattern_met content seen (IsMark n) (item.Mark m) e = inr (ap (λ (k : ℕ). 1114113 + k) (sym (eqb-true m n e)))
pattern_met content seen (IsAny s) x e = inl refl
pattern_met content seen (IsNotAny s) x e = inl refl
pattern_met content seen (IsIndex s k) x e = inl refl
pattern_met content seen (IsContextAt k) x e = inl refl
pattern_met content seen (IfEqual s v) x e = inl refl
pattern_met content seen (IfUnequal s v) x e = inl refl
pattern_met content seen AtStart x e = inl refl

-- what is caught after a pattern
abbrev Rest : Type 0
Rest = Catch → List Item → Option (List Catch)

no_item : (r : List Catch) (X : Type 0) → None ≡ Some r → X
no_item r X e = cc

item_met : (content : Content) (seen : List Catch) (p : Pattern) (rest : Rest) (text : List Item) (r : List Catch)
    → catch_item content seen p rest text ≡ Some r
    → (x : Item) × (behind : List Item) × (catch : Catch) × (text ≡ x ∷ behind) × (matches content seen p x ≡ true) × (rest catch behind ≡ Some r)
item_met content seen p rest [] r e = no_item r _ e
item_met content seen p rest (x ∷ text) r e = elim (cases_Bool (matches content seen p x)) [
  | inl met ↦
      let catch : Catch = record { item = Some x; place = place_for content p x } in
      (x, text, catch, refl, met, sym (cond-true (matches content seen p x) (rest catch text) None met) ∙ e)
  | inr other ↦
      let catch : Catch = record { item = Some x; place = place_for content p x } in
      no_item r _ (sym (cond-false (matches content seen p x) (rest catch text) None other) ∙ e)
]

-- if a rule context catches a text, the last item of the text can match the part of the last pattern
pub last_met : (content : Content) (seen : List Catch) (patterns : List Pattern) (text : List Item) (r : List Catch) (before : Option Item) (class : ℕ)
    → catches_from content seen patterns text ≡ Some r → Meets before class → Meets (last_item before text) (last_class class patterns)
last_met content seen [] [] r before class e h = h
last_met content seen [] (x ∷ text) r before class e h = no_item r _ e
last_met content seen (p ∷ patterns) text r before class e h =
    let rest : Rest = λ catch behind. catches_from content (seen ++ catch ∷ []) patterns behind in
    elim (cases_Bool (takes_item p)) [
      | inl takes ↦
          let one = item_met content seen p rest text r (sym (cond-true (takes_item p) (catch_item content seen p rest text) (rest nothing_caught text) takes) ∙ e) in
          let x : Item = one.0 in
          let behind : List Item = one.1 in
          let met : Meets (last_item (Some x) behind) (last_class (pattern_class p) patterns)
          = last_met content (seen ++ one.2 ∷ []) patterns behind r (Some x) (pattern_class p) one.5 (pattern_met content seen p x one.4) in
          let at_text : Meets (last_item before text) (last_class (pattern_class p) patterns)
          = subst (λ (t : List Item). Meets (last_item before t) (last_class (pattern_class p) patterns)) (sym one.3) met in
          subst (λ (k : ℕ). Meets (last_item before text) (last_class k patterns)) (sym (cond-true (takes_item p) (pattern_class p) class takes)) at_text
      | inr none ↦
          let met : Meets (last_item before text) (last_class class patterns)
          = last_met content (seen ++ nothing_caught ∷ []) patterns text r before class (sym (cond-false (takes_item p) (catch_item content seen p rest text) (rest nothing_caught text) none) ∙ e) h in
          subst (λ (k : ℕ). Meets (last_item before text) (last_class k patterns)) (sym (cond-false (takes_item p) (pattern_class p) class none)) met
    ]

-- if the last item of a list's end can match a part, the last item of the list can match it
pub last_of_last : (k : ℕ) (xs : List Item) (class : ℕ) (before : Option Item) → Meets (last_item None (drop k xs)) class → Meets (last_item before xs) class
last_of_last zero [] class before h = elim h [ inl e ↦ inl e | inr e ↦ inl e ]
last_of_last zero (x ∷ xs) class before h = h
last_of_last (suc k) [] class before h = elim h [ inl e ↦ inl e | inr e ↦ inl e ]
last_of_last (suc k) (x ∷ xs) class before h = last_of_last k xs class (Some x) h

-- a press can match a key: by 0, by its character or by its code
abbrev pub KeyMet : KeyPress → RuleKey → Type 0
KeyMet press wanted =
    (key_class wanted ≡ 0) ⊎ ((key_class wanted ≡ given_class press (char_of_press press)) ⊎ (key_class wanted ≡ 65537 + press.code))

given_met : (press : KeyPress) (c : ℕ) (o : Option ℕ) → option_map_or (eqb c) o false ≡ true → 1 + c ≡ given_class press o
given_met press c None e = let absurd_case : false ≡ true = e in cc
given_met press c (Some d) e = ap (λ (n : ℕ). 1 + n) (eqb-true c d e)

pub key_met : (press : KeyPress) (wanted : RuleKey) → key_fits wanted press ≡ true → KeyMet press wanted
unfolding key_fits
key_met press key.Any e = inl refl
key_met press (key.Char c) e = inr (inl (given_met press c (char_of_press press) e))
key_met press (key.Virtual flags code) e = inr (inr (elim (cases_Bool (eqb code press.code)) [
  | inl same ↦ ap (λ (n : ℕ). 65537 + n) (eqb-true code press.code same)
  | inr other ↦ let absurd_case : false ≡ true = ap (λ (b : Bool). b && flags_fit flags press.mods) (sym other) ∙ e in cc
]))

-- a press can match the key of a record: by 0, by its character or by its code
abbrev PartMet : KeyPress → KeyPattern → Type 0
PartMet press k = (key_part k ≡ 0) ⊎ ((key_part k ≡ given_class press (char_of_press press)) ⊎ (key_part k ≡ 65537 + press.code))

part_met : (content : Content) (press : KeyPress) (k : KeyPattern) (place : Option ℕ) → fitting_place content press k ≡ Some place → PartMet press k
part_met content press (KeyIn store) place e = inl refl
part_met content press (OneKey wanted) place e = key_met press wanted (elim (cases_Bool (key_fits wanted press)) [
  | inl yes_fits ↦ yes_fits
  | inr misfit ↦ let absurd_case : None ≡ Some place = sym (cond-false (key_fits wanted press) (Some None) None misfit) ∙ e in cc
])

-- if a record holds, the press can match its key and the last item its last pattern
holding_met : (content : Content) (left : List Item) (press : KeyPress) (rule : RuleMeaning) (caught : Caught)
    → holds content left press rule ≡ Some caught → PartMet press rule.key × Meets (last_item None left) (last_class 0 rule.context)
holding_met content left press rule caught e =
    let test : Bool = list_all (is_true content) rule.context && has_room rule.context left in
    let at : ℕ = length left - pattern_count rule.context in
    let catches : Option (List Catch) = catches_from content [] rule.context (drop at left) in
    let place : Option (Option ℕ) = fitting_place content press rule.key in
    elim (cases_Bool test) [
      | inr fails ↦ let absurd_case : None ≡ Some caught = sym (cond-false test (caught_by catches place) None fails) ∙ e in cc
      | inl passes ↦
          let both = caught_parts catches place caught (sym (cond-true test (caught_by catches place) None passes) ∙ e) in
          (part_met content press rule.key both.1.0 both.1.1, last_of_last at left _ None (last_met content [] rule.context (drop at left) both.0.0 None 0 both.0.1 (inl refl)))
    ]

last_with : (before : Option Item) (x : Item) (xs : List Item) → last_item before (x ∷ xs) ≡ slice_get (x ∷ xs) (length xs)
last_with before x [] = refl
last_with before x (y ∷ xs) = last_with (Some x) y xs

pub last_at : (xs : List Item) → last_item None xs ≡ slice_get xs (length xs - 1)
last_at [] = refl
last_at (x ∷ xs) = last_with None x xs ∙ ap (slice_get (x ∷ xs)) (omega arith)

-- if a record holds, it has one of the classes that the press and the left list can match
pub holding_is_wanted : HoldingIsWanted
holding_is_wanted content left press rule caught e =
    let met = holding_met content left press rule caught e in
    elim met.0 [
      | inl any_key ↦ elim met.1 [
        | inl other ↦ (1, omega arith, λ i. class_of (any_key i) (other i))
        | inr last ↦ (0, omega arith, λ i. class_of (any_key i) (last i))
      ]
      | inr which ↦ elim which [
        | inl given ↦ elim met.1 [
          | inl other ↦ (3, omega arith, λ i. class_of (given i) (other i))
          | inr last ↦ (2, omega arith, λ i. class_of (given i) (last i))
        ]
        | inr code ↦ elim met.1 [
          | inl other ↦ (5, omega arith, λ i. class_of (code i) (other i))
          | inr last ↦ (4, omega arith, λ i. class_of (code i) (last i))
        ]
      ]
    ]

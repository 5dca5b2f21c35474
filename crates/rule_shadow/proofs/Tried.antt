-- The presses to test decide whether a key covers another.
use Rattle.std.proofs.Common.{◌≡◌, ℕ, Bool, true, false, not, ◌&&◌, ◌||◌, List, [], ◌∷◌, refl, sym, ap, ◌∙◌, cond}
use Rattle.std.specs.Prelude.{filter}
use Rattle.std.specs.List.{list_all}
use Rattle.std.proofs.lemmas.List.Folds.{list_all-append}
use Rattle.kmn_base.specs.declared.keys.RuleKey.{RuleKey}
use Rattle.kmn_base.specs.declared.keys.RuleKey.TheVariants as key
use Rattle.virtual_keys.specs.Fits.{char_of_press, key_fits}
use Rattle.rule_shadow.specs.Keys.{all_modifiers, plain_modifiers, all_codes, presses_of, fitting_of, fitting_presses, tried_with, covers_key}

-- whether each press of these codes with these modifiers that fits the second key fits the first
abbrev pub tried_for : RuleKey → RuleKey → List ℕ → List ℕ → Bool
tried_for a b modifiers codes = list_all (λ code. list_all (λ press. not (key_fits b press) || key_fits a press) (presses_of modifiers code)) codes

-- with control or alt a press does not produce a character, so plain modifiers suffice
plain_enough : (a : RuleKey) (c code : ℕ) → list_all (λ press. not (key_fits (key.Char c) press) || key_fits a press) (presses_of plain_modifiers code) ≡ tried_with a (key.Char c) code
unfolding all_modifiers plain_modifiers key_fits char_of_press
plain_enough a c code = refl

same_tests : (f g : ℕ → Bool) → ((code : ℕ) → f code ≡ g code) → (codes : List ℕ) → list_all f codes ≡ list_all g codes
same_tests f g same [] = refl
same_tests f g same (code ∷ codes) = λ i. same code i && same_tests f g same codes i

pub plain_tried : (a : RuleKey) (c : ℕ) → tried_for a (key.Char c) plain_modifiers all_codes ≡ covers_key a (key.Char c)
plain_tried a c = same_tests (λ code. list_all (λ press. not (key_fits (key.Char c) press) || key_fits a press) (presses_of plain_modifiers code)) (tried_with a (key.Char c)) (plain_enough a c) all_codes

-- all elements that pass `p` pass `q` exactly where all elements of the list filtered by `p` pass `q`
only_fitting : {X : Type 0} (p q : X → Bool) (xs : List X) → list_all (λ x. not (p x) || q x) xs ≡ list_all q (filter p xs)
only_fitting p q [] = refl
only_fitting p q (x ∷ xs) = one (p x) (only_fitting p q xs)
  where
    one : (b : Bool) → list_all (λ x. not (p x) || q x) xs ≡ list_all q (filter p xs) → ((not b || q x) && list_all (λ x. not (p x) || q x) xs) ≡ list_all q (cond b (x ∷ filter p xs) (filter p xs))
    one true h = ap (λ r. q x && r) h
    one false h = h

told_for : (a b : RuleKey) (modifiers codes : List ℕ) → tried_for a b modifiers codes ≡ list_all (key_fits a) (fitting_of b modifiers codes)
told_for a b modifiers [] = refl
told_for a b modifiers (code ∷ codes) =
    (λ i. only_fitting (key_fits b) (key_fits a) (presses_of modifiers code) i && told_for a b modifiers codes i)
    ∙ sym (list_all-append (key_fits a) (filter (key_fits b) (presses_of modifiers code)) (fitting_of b modifiers codes))

-- a key covers another exactly where it fits all presses to test that fit the other
pub fitting_tell : (a b : RuleKey) → list_all (key_fits a) (fitting_presses b) ≡ covers_key a b
fitting_tell a key.Any = sym (told_for a key.Any all_modifiers all_codes)
fitting_tell a (key.Char c) = sym (told_for a (key.Char c) plain_modifiers all_codes) ∙ plain_tried a c
fitting_tell a (key.Virtual flags code) = sym (told_for a (key.Virtual flags code) all_modifiers (code ∷ []))

-- Conditions are true in Keyman's own engine if and only if they are in this product, if both test them in the same way.
use Rattle.std.specs.Prelude.{◌≡◌, ℕ, Bool, true, false, not, ◌&&◌, ◌||◌, List, [], ◌∷◌, Option, Some, unwrap_or, slice_get}
use Rattle.std.specs.List.{list_all, list_any}
use Rattle.std.specs.Option.{option_map_or}
use Rattle.std.proofs.Common.{refl, sym, ap, ◌∙◌}
use Rattle.kmn_base.specs.declared.items.Element.{Element}
use Rattle.rule_model.specs.declared.tables.Pat.TheVariants as pattern
use Rattle.rule_model.specs.declared.tables.Store.{Store}
use Rattle.rule_model.specs.declared.system.TheConstants.{PLATFORM}
use Rattle.rule_model.specs.Keyboard.{Numbered, Platform}
use Rattle.rule_model.specs.Match.{Content, same_value}
use Rattle.rule_model.specs.System.{same_word, element_words, has_words, is_equal, system_ref}
use Rattle.rule_model.specs.Tab.{elements_of}
use Rattle.core_meaning.specs.Events.{CoreKeyboard}
use Rattle.core_meaning.specs.Contexts.{core_platform, has_empty_word, system_equal}
use Rattle.core_meaning.specs.ContextLaws.{stated_platform, HasItsElements, IsOnPlatform, ConditionsAreAlike}

-- the same four words in another order
second_before_third : (a b c d : Bool) → (a || (b || (c || (d || false)))) ≡ (a || (c || (b || (d || false))))
second_before_third true b c d = refl
second_before_third false true true d = refl
second_before_third false true false d = refl
second_before_third false false true d = refl
second_before_third false false false d = refl

-- both platforms have the same words
same_platform : (value : List Element) → has_words core_platform value ≡ has_words stated_platform value
same_platform value = all_alike (element_words value)
  where
    one_alike : (word : List Element) → list_any (λ (known : List Element). same_word known word) (element_words core_platform) ≡ list_any (λ (known : List Element). same_word known word) (element_words stated_platform)
    one_alike word = second_before_third (same_word (word_at 0) word) (same_word (word_at 1) word) (same_word (word_at 2) word) (same_word (word_at 3) word)
      where
        word_at : ℕ → List Element
        word_at n = unwrap_or (slice_get (element_words core_platform) n) []

    all_alike : (words : List (List Element)) → list_all (λ word. list_any (λ (known : List Element). same_word known word) (element_words core_platform)) words ≡ list_all (λ word. list_any (λ (known : List Element). same_word known word) (element_words stated_platform)) words
    all_alike [] = refl
    all_alike (word ∷ words) = λ i. one_alike word i && all_alike words i

-- a condition for equal on the platform
platform_equal : (kb : CoreKeyboard) (content : Content) (stores : List Store) (value : ℕ) → content Platform ≡ stated_platform → HasItsElements content stores value → has_empty_word (elements_of stores value) ≡ false
    → system_equal kb content PLATFORM (content (Numbered value)) ≡ Some (has_words (content Platform) (elements_of stores value))
platform_equal kb content stores value unset elements words =
    ap (λ (v : List Element). Some (not (has_empty_word v) && has_words core_platform v)) elements
    ∙ ap (λ (b : Bool). Some (not b && has_words core_platform (elements_of stores value))) words
    ∙ ap Some (same_platform (elements_of stores value))
    ∙ ap (λ (p : List Element). Some (has_words p (elements_of stores value))) (sym unset)

-- the same where the id is that of the platform
on_platform : (kb : CoreKeyboard) (content : Content) (stores : List Store) (id value : ℕ) → IsOnPlatform content stores id value
    → system_equal kb content id (content (Numbered value)) ≡ Some (is_equal (system_ref id) (content (system_ref id)) (elements_of stores value))
on_platform kb content stores id value on =
    ap (λ (n : ℕ). system_equal kb content n (content (Numbered value))) on.platform
    ∙ platform_equal kb content stores value on.unset on.elements on.words
    ∙ ap (λ (n : ℕ). Some (is_equal (system_ref n) (content (system_ref n)) (elements_of stores value))) (sym on.platform)

pub conditions_are_alike : ConditionsAreAlike
conditions_are_alike kb content stores (pattern.Equal store value) alike = ap (same_value (content (Numbered store))) alike
conditions_are_alike kb content stores (pattern.Unequal store value) alike = ap (λ (v : List Element). not (same_value (content (Numbered store)) v)) alike
conditions_are_alike kb content stores (pattern.SystemEqual id value) alike = ap (λ (o : Option Bool). unwrap_or o false) (on_platform kb content stores id value alike)
conditions_are_alike kb content stores (pattern.SystemUnequal id value) alike = ap (λ (o : Option Bool). option_map_or not o false) (on_platform kb content stores id value alike)
conditions_are_alike kb content stores (pattern.Char c) alike = refl
conditions_are_alike kb content stores (pattern.Mark m) alike = refl
conditions_are_alike kb content stores (pattern.Any store) alike = refl
conditions_are_alike kb content stores (pattern.NotAny store) alike = refl
conditions_are_alike kb content stores (pattern.Index store offset) alike = refl
conditions_are_alike kb content stores (pattern.ContextAt offset) alike = refl
conditions_are_alike kb content stores pattern.Nul alike = refl

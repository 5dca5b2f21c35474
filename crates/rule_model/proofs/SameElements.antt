-- Elements and values are the same exactly where `==` of them is true.
use Rattle.std.proofs.Common.{◌≡◌, List, [], ◌∷◌, refl}
use Rattle.std.specs.Prelude.{◌&&◌}
use Rattle.std.specs.Cmp.Lexicographic.{pointwise}
use Rattle.kmn_base.specs.declared.items.Element.{Element}
use Rattle.kmn_base.specs.declared.items.Element.TheVariants as element
use Rattle.kmn_base.specs.contracts.items.ElementPartialEq.TheImpl as ElementPartialEq
use Rattle.rule_model.specs.Match.{same_element, same_value}

-- the result of `==` for two elements
pub equal_elements : (a b : Element) → ElementPartialEq.eq-value.it a b ≡ same_element a b
equal_elements (element.Char c) (element.Char d) = refl
equal_elements (element.Char c) (element.Mark n) = refl
equal_elements (element.Char c) (element.Key flags code) = refl
equal_elements (element.Mark m) (element.Char d) = refl
equal_elements (element.Mark m) (element.Mark n) = refl
equal_elements (element.Mark m) (element.Key flags code) = refl
equal_elements (element.Key flags code) (element.Char d) = refl
equal_elements (element.Key flags code) (element.Mark n) = refl
equal_elements (element.Key flags code) (element.Key other other_code) = refl

-- the result of `==` for two values
pub equal_values : (a b : List Element) → pointwise ElementPartialEq.eq-value.it a b ≡ same_value a b
equal_values [] [] = refl
equal_values [] (b ∷ others) = refl
equal_values (a ∷ rest) [] = refl
equal_values (a ∷ rest) (b ∷ others) = λ j. equal_elements a b j && equal_values rest others j

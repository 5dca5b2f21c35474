-- A list of elements has at most as many characters as elements.
use Rattle.std.proofs.Common.{ℕ, suc, ◌≤◌, List, [], ◌∷◌, length, arith}
use Rattle.std.specs.Prelude.{filter_map}
use Rattle.kmn_base.specs.declared.items.Element.{Element}
use Rattle.kmn_base.specs.declared.items.Element.TheVariants as element
use Rattle.rule_model.specs.Tab.{element_char}

next-both : (a b : ℕ) → a ≤ b → suc a ≤ suc b
next-both a b h = omega arith

next-right : (a b : ℕ) → a ≤ b → a ≤ suc b
next-right a b h = omega arith

pub characters-few : (es : List Element) → length (filter_map element_char es) ≤ length es
characters-few [] = omega arith
characters-few (element.Char c ∷ es) = next-both (length (filter_map element_char es)) (length es) (characters-few es)
characters-few (element.Mark m ∷ es) = next-right (length (filter_map element_char es)) (length es) (characters-few es)
characters-few (element.Key flags code ∷ es) = next-right (length (filter_map element_char es)) (length es) (characters-few es)

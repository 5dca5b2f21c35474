-- Numbers of values, which are the same exactly where the values are the same.
use Rattle.std.specs.Prelude.{◌≡◌, ℕ, ◌+◌, ◌*◌, ◌<◌, List, [], ◌∷◌, length, flat_map, slice_get, slice_index_or, slice_index, unwrap_or, Option, Some, None, bytes_eq, if◌then◌else◌}
use Rattle.std.specs.Ordering.{nat_cmp}
use Rattle.std.specs.Cmp.Lexicographic.{slice_cmp}
use Rattle.std.specs.Borrow.{Bor}
use Rattle.std.specs.BTreeMap.{BTreeMap, get_by}
use Rattle.kmn_base.specs.declared.items.Element.{Element}
use Rattle.kmn_base.specs.declared.items.Element.TheVariants as element

-- an element as numbers; the first shows the kind of the element and so how many numbers there are
abbrev pub element_code : Element → List ℕ
element_code (element.Char c) = (3 * c) ∷ []
element_code (element.Mark m) = (1 + 3 * m) ∷ []
element_code (element.Key flags code) = (2 + 3 * flags) ∷ code ∷ []

-- elements as numbers: the numbers of each element, in their order
abbrev pub value_code : List Element → List ℕ
value_code elements = flat_map element_code elements

-- the number of a store's elements; the first of the numbers is the number of no elements, and the numbers of the stores follow it
abbrev pub number_for : List ℕ → ℕ → ℕ
number_for numbers store = unwrap_or (slice_get numbers (store + 1)) (slice_index numbers 0)

-- values have the same number exactly where they are the same
pub record AreNumbersOf (values : List (List ℕ)) (numbers : List ℕ) : Type 0 where
  pub count : length numbers ≡ length values
  pub same : (i j : ℕ) → i < length values → j < length values → slice_index_or values i [] ≡ slice_index_or values j [] → slice_index numbers i ≡ slice_index numbers j
  pub other : (i j : ℕ) → i < length values → j < length values → slice_index numbers i ≡ slice_index numbers j → slice_index_or values i [] ≡ slice_index_or values j []

-- the number that a map has for a value
abbrev pub known_in : BTreeMap (Bor (List ℕ)) ℕ → List ℕ → Option ℕ
known_in numbers value = get_by (λ (k : Bor (List ℕ)). slice_cmp nat_cmp value k.now) numbers

-- a value has its number, or gets the next one
pub data IsNumbered (old new : List ℕ → Option ℕ) (value : List ℕ) (next number : ℕ) : Type 0 where
  Stayed : (found : old value ≡ Some number) → (same : (q : List ℕ) → new q ≡ old q) → IsNumbered old new value next number
  Added : (none : old value ≡ None) → (added : (q : List ℕ) → new q ≡ (if bytes_eq value q then Some next else old q)) → (is : number ≡ next) → IsNumbered old new value next number

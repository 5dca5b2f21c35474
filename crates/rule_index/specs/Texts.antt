-- The texts that stores are stated with, each with the number of a store.
use Rattle.std.specs.Prelude.{◌≡◌, ℕ, ◌<◌, false, List, map, Vec, Option, Some, None}
use Rattle.std.specs.Map.{lookup}
use Rattle.std.specs.Str.{bytes_eq}
use Rattle.kmn_base.specs.declared.items.Element.{Element}
use Rattle.kmn_base.specs.declared.items.Element.TheVariants.{Char}
use Rattle.rule_model.specs.Content.{elements_at}
use Rattle.rule_model.specs.Keyboard.{StoreMeaning}
use Rattle.rule_model.specs.Match.{same_value}
use Rattle.rule_index.specs.Holdings.{content_at}

-- no store of the keyboard is stated with a text
abbrev pub IsApart : List StoreMeaning → List ℕ → Type 0
IsApart stores text = (value : ℕ) → same_value (map Char text) (elements_at stores (Some value)) ≡ false

-- the characters of elements, or None if an element is not a character
abbrev pub AreCharacters : {A : Type 0} → List Element → Option (Vec ℕ A) → Type 0
AreCharacters elements (Some text) = map Char text.items ≡ elements
AreCharacters elements None = (text : List ℕ) → same_value (map Char text) elements ≡ false

-- the number that the entries of a table have for a text
abbrev pub store_of : {A : Type 0} → List (Vec ℕ A × ℕ) → List ℕ → Option ℕ
store_of entries text = lookup (λ key. bytes_eq text key.items) entries

-- entries have each text that one of the first stores is stated with, and no other text
pub record AreTexts {A : Type 0} (stores : List (List Element)) (count : ℕ) (entries : List (Vec ℕ A × ℕ)) : Type 0 where
  pub found : (text : List ℕ) (store : ℕ) → store_of entries text ≡ Some store → (store < count) × (content_at stores store ≡ map Char text)
  pub missing : (text : List ℕ) (store : ℕ) → store_of entries text ≡ None → store < count → same_value (map Char text) (content_at stores store) ≡ false

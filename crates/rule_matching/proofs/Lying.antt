-- The content of a store, read in place: a text of the host as elements.
use Rattle.std.proofs.Common.{◌≡◌, ℕ, List, map, sym}
use Rattle.std.specs.Prelude.{option_map, position, slice_get}
use Rattle.std.proofs.lemmas.Option.{slice_get-map}
use Rattle.virtual_keys.proofs.PositionLemmas.{position-map}
use Rattle.kmn_base.specs.declared.items.Item.{Item}
use Rattle.kmn_base.specs.declared.items.Element.TheVariants as element
use Rattle.rule_model.specs.Match.{is_item, place_of}

-- the first place of an item among the characters of a text is its first place among the elements of the text
pub place_in_text : (x : Item) (text : List ℕ) → position (λ c. is_item x (element.Char c)) text ≡ place_of x (map element.Char text)
place_in_text x text = sym (position-map element.Char (is_item x) text)

-- the character at a place of a text, as an element, is the element at this place of the text
pub element_in_text : (text : List ℕ) (place : ℕ) → option_map element.Char (slice_get text place) ≡ slice_get (map element.Char text) place
element_in_text text place = sym (slice_get-map element.Char text place)

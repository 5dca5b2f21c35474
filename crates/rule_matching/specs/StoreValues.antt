-- The content of a store, read in place.
use Rattle.std.specs.Prelude.{List, map}
use Rattle.kmn_base.specs.declared.items.Element.{Element}
use Rattle.kmn_base.specs.declared.items.Element.TheVariants.{Char}
use Rattle.rule_matching.specs.declared.store_value.StoreValue.{StoreValue}
use Rattle.rule_matching.specs.declared.store_value.StoreValue.TheVariants.{Elements, Text}

-- the elements of a value: elements of the keyboard, or the characters of a text as elements
abbrev pub elements_in : StoreValue → List Element
elements_in (Elements elements) = elements.now
elements_in (Text text) = map Char text.now

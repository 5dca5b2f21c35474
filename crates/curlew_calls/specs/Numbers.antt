-- Texts as the numbers that a caller in another language reads, and the buffers that it passes for them.
use Rattle.std.specs.Prelude.{ℕ, ◌+◌, Bool, true, false, if◌then◌else◌, List, [], ◌∷◌, map, Option, Some, None}
use Rattle.std.specs.Str.{all_scalars}
use Rattle.kmn_base.specs.declared.items.Item.{Item}
use Rattle.kmn_base.specs.declared.items.Item.TheVariants as item
use Rattle.kmn_base.specs.declared.items.Element.{Element}
use Rattle.kmn_base.specs.declared.items.Element.TheVariants as element
use Rattle.kmn_base.specs.declared.codes.Code.{Code}
use Rattle.kmn_base.specs.declared.codes.Code.TheVariants.{V01, V02, V03, V04, V05, V06, V07, V08, V09, V10, V11, V12, V13, V14, V15, V16}

-- the buffer after as many of the numbers as fit were written over its beginning; the rest of the buffer is unchanged
abbrev pub written : List ℕ → List ℕ → List ℕ
written [] room = room
written (n ∷ numbers) [] = []
written (n ∷ numbers) (old ∷ room) = n ∷ written numbers room

-- the number of an item before the caret: the code point of a character; for a mark a number past all code points, which end at 0x10_FFFF
abbrev pub item_number : Item → ℕ
item_number (item.Char c) = c
item_number (item.Mark m) = 0x8000_0000 + m

-- the number of an element of an option's value: as for an item; for a virtual key, which equals no item, a number with its code
abbrev pub element_number : Element → ℕ
element_number (element.Char c) = c
element_number (element.Mark m) = 0x8000_0000 + m
element_number (element.Key flags code) = 0x9000_0000 + code

abbrev pub item_numbers : List Item → List ℕ
item_numbers items = map item_number items

abbrev pub element_numbers : List Element → List ℕ
element_numbers elements = map element_number elements

-- the text of these numbers, if each of them is a character
abbrev pub text_of : List ℕ → Option (List ℕ)
text_of numbers = if all_scalars numbers then Some numbers else None

-- a truth value as a number
abbrev pub bit : Bool → ℕ
bit true = 1
bit false = 0

-- the number of a rule about compiled keyboards, 0 for every other code
unfoldable pub rule_number : Code → ℕ
rule_number V01 = 1
rule_number V02 = 2
rule_number V03 = 3
rule_number V04 = 4
rule_number V05 = 5
rule_number V06 = 6
rule_number V07 = 7
rule_number V08 = 8
rule_number V09 = 9
rule_number V10 = 10
rule_number V11 = 11
rule_number V12 = 12
rule_number V13 = 13
rule_number V14 = 14
rule_number V15 = 15
rule_number V16 = 16
rule_number _ = 0

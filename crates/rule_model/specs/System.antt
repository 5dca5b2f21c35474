-- The system options: the layer that is shown, and the platform on which a keyboard runs.
use Rattle.std.specs.Prelude.{ℕ, ◌+◌, Bool, true, false, not, ◌&&◌, nat_eq, nat_le, if◌then◌else◌, List, [], ◌∷◌, length, map, filter, codes}
use Rattle.std.specs.List.{list_all, list_any, slice_split}
use Rattle.kmn_base.specs.declared.items.Element.{Element}
use Rattle.kmn_base.specs.declared.items.Element.TheVariants as element
use Rattle.rule_model.specs.Keyboard.{Ref, Layer, Platform, StoreMeaning}
use Rattle.rule_model.specs.Match.{same_value}
use Rattle.rule_model.specs.declared.system.TheConstants.{PLATFORM}

-- a system option with its name and its elements
abbrev pub system_option : List ℕ → List ℕ → StoreMeaning
system_option name value = record { name = name; elements = map element.Char value; is_option = true; is_system = true }

-- the two system options of every keyboard, which come after its stores
abbrev pub system_options : List StoreMeaning
system_options = system_option (codes "&layer") (codes "default") ∷ system_option (codes "&platform") (codes "windows desktop hardware native") ∷ []

-- an ASCII letter in lower case
abbrev pub small_letter : ℕ → ℕ
small_letter c = if nat_le 65 c && nat_le c 90 then c + 32 else c

-- whether two elements are the same without ASCII case
abbrev pub same_without_case : Element → Element → Bool
same_without_case (element.Char c) (element.Char d) = nat_eq (small_letter c) (small_letter d)
same_without_case (element.Mark m) (element.Mark n) = nat_eq m n
same_without_case (element.Key flags code) (element.Key other other_code) = nat_eq flags other && nat_eq code other_code
same_without_case a b = false

-- whether two words are the same without ASCII case
abbrev pub same_word : List Element → List Element → Bool
same_word [] [] = true
same_word [] (b ∷ others) = false
same_word (a ∷ rest) [] = false
same_word (a ∷ rest) (b ∷ others) = same_without_case a b && same_word rest others

abbrev pub is_space : Element → Bool
is_space (element.Char c) = nat_eq c 32
is_space e = false

-- the longest runs of elements other than spaces
abbrev pub element_words : List Element → List (List Element)
element_words elements = filter (λ word. not (nat_eq (length word) 0)) (slice_split is_space elements)

-- whether each word of a value is a word of a content
abbrev pub has_words : List Element → List Element → Bool
has_words content value = list_all (λ word. list_any (λ known. same_word known word) (element_words content)) (element_words value)

-- whether a condition for equality is true for the content of the store that it names: the platform is compared by words
abbrev pub is_equal : Ref → List Element → List Element → Bool
is_equal Platform content value = has_words content value
is_equal ref content value = same_value content value

-- the system option with an id: 31 is the platform and 33 the layer; a file has no other
abbrev pub system_ref : ℕ → Ref
system_ref id = if nat_eq id PLATFORM then Platform else Layer

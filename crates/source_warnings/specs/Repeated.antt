-- W06: elements of the store of `any` that are in it before, where the store of `index` has another element.
use Rattle.std.specs.Prelude.{ℕ, ◌+◌, Bool, false, not, if◌then◌else◌, List, [], ◌∷◌, ◌++◌, length, map, flat_map, take, slice_get, codes, Option, Some, None, option_map}
use Rattle.std.specs.List.{concat}
use Rattle.std.specs.Fmt.{decimal}
use Rattle.kmn_base.specs.Names.{same_name}
use Rattle.virtual_keys.specs.Dictionary.{place_in}
use Rattle.rule_model.specs.declared.program.KeyName.{KeyName}
use Rattle.rule_model.specs.declared.program.StoreDef.{StoreDef}
use Rattle.source_uses.specs.declared.contents.StoreElement.{StoreElement}
use Rattle.source_uses.specs.declared.contents.StoreElement.TheVariants as element
use Rattle.source_uses.specs.declared.contents.Contents.{Contents}
use Rattle.source_uses.specs.declared.pairs.Pair.{Pair}
use Rattle.source_uses.specs.declared.used.Use.{Use}
use Rattle.source_uses.specs.Elements.{elements_named}
use Rattle.source_uses.specs.Marks.{use_line}
use Rattle.source_uses.specs.Pairs.{distinct_pairs}
use Rattle.source_uses.specs.Uses.{names_of, stated_stores}
use Rattle.name_warnings.specs.declared.warning.Warning.{Warning}
use Rattle.name_warnings.specs.declared.warning.WarningKind.TheVariants as kind

-- an element as a name, which is the same name only for the same element: a character by its number, a deadkey by its name, and a virtual
-- key by its flags, its code and its name
unfoldable pub character_name : ℕ → List ℕ
character_name c = concat (codes "character " ∷ decimal c ∷ [])

abbrev pub deadkey_name : List ℕ → List ℕ
deadkey_name name = codes "deadkey " ++ name

unfoldable pub key_numbers : ℕ → ℕ → List ℕ
key_numbers flags code = concat (codes "key " ∷ decimal flags ∷ codes " " ∷ decimal code ∷ codes " " ∷ [])

abbrev pub key_name : KeyName → List ℕ
key_name key = key_numbers key.flags key.code ++ key.name

unfoldable pub element_name : StoreElement → List ℕ
element_name (element.Char c) = character_name c
element_name (element.Mark name) = deadkey_name name
element_name (element.Key key) = key_name key

-- whether two elements are not the same
abbrev pub are_different : StoreElement → StoreElement → Bool
are_different one other = not (same_name (element_name one) (element_name other))

-- whether there are two elements that are not the same
abbrev pub is_other : StoreElement → Option StoreElement → Bool
is_other one None = false
is_other one (Some other) = are_different one other

abbrev pub differ_at : List StoreElement → ℕ → Option StoreElement → Bool
differ_at partners place None = false
differ_at partners place (Some first) = is_other first (slice_get partners place)

-- whether the partner of an element at a place is another one than the partner at the first place of this element; partners are the
-- elements of the store of `index`, and a place past their end has none
unfoldable pub is_hidden_from : List StoreElement → ℕ → Option ℕ → Bool
is_hidden_from partners place None = false
is_hidden_from partners place (Some first) = differ_at partners place (slice_get partners first)

unfoldable pub is_hidden : List (List ℕ) → List StoreElement → ℕ → StoreElement → Bool
is_hidden names partners place found = is_hidden_from partners place (place_in names (element_name found))

-- the number, from 1, of the first element whose partner is hidden so, from a place on
abbrev pub first_hidden : List (List ℕ) → List StoreElement → ℕ → List StoreElement → Option ℕ
first_hidden names partners place [] = None
first_hidden names partners place (found ∷ elements) =
    if is_hidden names partners place found then Some (place + 1) else first_hidden names partners (place + 1) elements

-- the same for all elements
unfoldable pub hidden_among : List StoreElement → List StoreElement → Option ℕ
hidden_among elements partners = first_hidden (map element_name elements) partners 0 elements

-- the same for the elements that have a partner
unfoldable pub hidden_number : List StoreElement → List StoreElement → Option ℕ
hidden_number elements partners = hidden_among (take (length partners) elements) partners

-- the same for the elements of the store of an `any`, with the elements of the store of `index` as partners
unfoldable pub pair_number : Contents → Pair → Option ℕ
pair_number contents pair = hidden_number (elements_named contents pair.any) (elements_named contents pair.index)

-- the line of the store with a name, among stores with these names
abbrev pub line_at : List Use → Option ℕ → Option ℕ
line_at stated None = None
line_at stated (Some place) = option_map use_line (slice_get stated place)

unfoldable pub store_line : List (List ℕ) → List Use → List ℕ → Option ℕ
store_line names stated name = line_at stated (place_in names name)

-- the warning of two stores at a line, of the element with a number
unfoldable pub repeated_at : Pair → Option ℕ → Option ℕ → List Warning
repeated_at pair None number = []
repeated_at pair (Some line) None = []
repeated_at pair (Some line) (Some number) = record { line = line; kind = kind.RepeatedElement number pair.any pair.index } ∷ []

-- the warning of a pair at the line of the store of its `any`, among stores with these names
unfoldable pub repeated_element : Contents → List (List ℕ) → List Use → Pair → List Warning
repeated_element contents names stated pair = repeated_at pair (store_line names stated pair.any) (pair_number contents pair)

unfoldable pub repeated_among : Contents → List Use → List Pair → List Warning
repeated_among contents stated pairs = flat_map (repeated_element contents (names_of stated) stated) pairs

-- W06: for each two stores of an `index` and its `any`, at the store of `any`, its first element that is in it before, at a place where the
-- store of `index` has another element. So the element of `index` at the same place is never put
unfoldable pub repeated_elements : Contents → List StoreDef → List Pair → List Warning
repeated_elements contents stores pairs = repeated_among contents (stated_stores stores) (distinct_pairs [] pairs)

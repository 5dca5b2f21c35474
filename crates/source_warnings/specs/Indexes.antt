-- W05 and W18: stores of `index` that are shorter or longer than the store of their `any`.
use Rattle.std.specs.Prelude.{ℕ, nat_lt, if◌then◌else◌, List, [], ◌∷◌, length, map, flat_map}
use Rattle.source_uses.specs.declared.contents.Contents.{Contents}
use Rattle.source_uses.specs.declared.pairs.Pair.{Pair}
use Rattle.source_uses.specs.Elements.{elements_named}
use Rattle.source_uses.specs.Pairs.{new_pairs}
use Rattle.name_warnings.specs.declared.warning.Warning.{Warning}
use Rattle.name_warnings.specs.declared.warning.WarningKind.TheVariants as kind

-- the number of elements of the store with a name
abbrev pub size_of : Contents → List ℕ → ℕ
size_of contents name = length (elements_named contents name)

-- W05: an `index` whose store has fewer elements than that of its `any`
abbrev pub shorter_index : Contents → Pair → List Warning
shorter_index contents pair =
    if nat_lt (size_of contents pair.index) (size_of contents pair.any)
    then record { line = pair.line; kind = kind.ShorterIndex pair.index (size_of contents pair.index) pair.any (size_of contents pair.any) } ∷ []
    else []

abbrev pub shorter_indexes : Contents → List Pair → List Warning
shorter_indexes contents pairs = flat_map (shorter_index contents) pairs

-- the store of an `index`, if it has at most as many elements as that of its `any`
abbrev pub fitting_pair : Contents → Pair → List (List ℕ)
fitting_pair contents pair = if nat_lt (size_of contents pair.any) (size_of contents pair.index) then [] else pair.index ∷ []

abbrev pub fitting_names : Contents → List Pair → List (List ℕ)
fitting_names contents pairs = flat_map (fitting_pair contents) pairs

abbrev pub longer_warning : Pair → Warning
longer_warning pair = record { line = pair.line; kind = kind.LongerIndex pair.index pair.any }

-- W18: stores of `index` that have more elements than the store of each of their `any`, at the first `index`
abbrev pub longer_indexes : Contents → List Pair → List Warning
longer_indexes contents pairs = map longer_warning (new_pairs (fitting_names contents pairs) pairs)

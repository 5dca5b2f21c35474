-- Where the refusals of a source stand.
use Rattle.std.specs.Prelude.{ℕ, nat_eq, Bool, true, false, if◌then◌else◌, List, [], ◌∷◌, take, drop, Option, None, Some}
use Rattle.kmn_base.specs.declared.codes.Code.{Code}
use Rattle.kmn_base.specs.declared.codes.Code.TheVariants.{L01, L05, C01, C19, C20, C21, C22}
use Rattle.kmn_base.specs.declared.refusals.Refusal.{Refusal}
use Rattle.kmn_lines.specs.Lines.{logicals}
use Rattle.kmn_lines.specs.declared.logical.Logical.{Logical}
use Rattle.source_names.specs.declared.causes.NameFault.{NameFault}
use Rattle.refusal_places.specs.Columns.{column_behind}
use Rattle.refusal_places.specs.Names.{name_at}
use Rattle.refusal_places.specs.Spots.{spot_in}
use Rattle.refusal_places.specs.declared.placed_refusal.Placed.{Placed}
use Rattle.refusal_places.specs.declared.spot.Spot.{Spot}

-- a refusal at the start of its line
abbrev pub at_start : Refusal → Placed
at_start found = record { line = found.line; column = 1; code = found.code }

-- whether a code is about the source or the program as a whole, and not about a part of a line
abbrev pub is_of_whole : Code → Bool
is_of_whole L01 = true
is_of_whole L05 = true
is_of_whole C01 = true
is_of_whole C19 = true
is_of_whole C20 = true
is_of_whole C21 = true
is_of_whole C22 = true
is_of_whole other = false

-- a refusal of a logical line at the spot of a token, whose column counts the characters before it in its physical line
abbrev pub placed_at : List ℕ → Logical → Refusal → Option Spot → Placed
placed_at source line found None = at_start found
placed_at source line found (Some spot) =
    record { line = spot.line; column = column_behind (drop line.from (take spot.at source)); code = found.code }

-- a refusal at its spot in the one of these lines that has its number, for the name that the line lacks
abbrev pub placed_among : List ℕ → Refusal → List ℕ → List Logical → Placed
placed_among source found name [] = at_start found
placed_among source found name (line ∷ lines) =
    if nat_eq line.first_line found.line then placed_at source line found (spot_in source line found.code name)
    else placed_among source found name lines

-- a refusal of a source in UTF-8, for the causes for which names refuse its lines
unfoldable pub placed_in : List ℕ → List NameFault → Refusal → Placed
placed_in source faults found =
    if is_of_whole found.code then at_start found else placed_among source found (name_at found.line faults) (logicals source)

-- The number of a line that has a fault.
use Rattle.std.specs.Prelude.{ℕ, ◌+◌, nat_eq, if◌then◌else◌, List, [], ◌∷◌, take, drop, Option, None, Some}
use Rattle.kmn_lines.specs.Lines.{parts_in}
use Rattle.kmn_lines.specs.Tokens.{word_size}
use Rattle.kmn_lines.specs.declared.logical.Logical.{Logical}
use Rattle.kmn_lines.specs.declared.logical.Part.{Part}
use Rattle.refusal_places.specs.Spots.{parts_spot}
use Rattle.refusal_places.specs.declared.spot.Spot.{Spot}

-- the text of the number at the beginning of bytes: two bytes, and the word after them
unfoldable pub number_text : List ℕ → List ℕ
number_text bytes = take (2 + word_size (drop 2 bytes)) bytes

-- the text of the number at a spot, in the part of a line that is in the same physical line
abbrev pub spot_text : List ℕ → Spot → List Part → List ℕ
spot_text source spot [] = []
spot_text source spot (p ∷ ps) = if nat_eq p.line spot.line then number_text (drop spot.at (take p.to source)) else spot_text source spot ps

-- the text of the number at a spot of a line, if there is a spot
abbrev pub found_text : List ℕ → Logical → Option Spot → List ℕ
found_text source line None = []
found_text source line (Some spot) = spot_text source spot (parts_in source line)

-- the text of the first token of a line that has a fault, if it is a number
unfoldable pub fault_text : List ℕ → Logical → List ℕ
fault_text source line = found_text source line (parts_spot source (parts_in source line))

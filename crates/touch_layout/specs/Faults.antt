-- Places in a layout, and rules that are broken there.
use Rattle.std.specs.Prelude.{ℕ}
use Rattle.kmn_base.specs.declared.codes.Code.{Code}
use Rattle.touch_layout.specs.declared.faults.LayoutPlace.{LayoutPlace}
use Rattle.touch_layout.specs.declared.faults.LayoutFault.{LayoutFault}

-- the place of a platform, layer, row and key, each counted from 1, or 0 if the place has no number of this kind
abbrev pub at_place : ℕ → ℕ → ℕ → ℕ → LayoutPlace
at_place platform layer row key = record { platform = platform; layer = layer; row = row; key = key }

-- the place of a layout as a whole
abbrev pub whole_layout : LayoutPlace
whole_layout = at_place 0 0 0 0

-- a broken rule at a place
abbrev pub fault : Code → LayoutPlace → LayoutFault
fault code place = record { code = code; place = place }

-- Iterating over the lines and parts of a source: the remaining ones and their positions.
use Rattle.std.specs.Prelude.{if◌then◌else◌, List, map, None}
use Rattle.kmn_lines.specs.Lines.{physical_lines_at, gather, opening_parts, part_after}
use Rattle.kmn_lines.specs.declared.line_state.PhysicalLine.{PhysicalLine}
use Rattle.kmn_lines.specs.declared.logical.Logical.{Logical}
use Rattle.kmn_lines.specs.declared.logical.Part.{Part}
use Rattle.kmn_lines.specs.declared.line_walk.Lines.{Lines}
use Rattle.kmn_lines.specs.declared.part_walk.Parts.{Parts}
use Rattle.kmn_lines.specs.declared.physical_walk.PhysicalLines.{PhysicalLines}

-- the remaining lines
abbrev pub lines_left : Lines → List Logical
lines_left walk = gather None (physical_lines_at walk.line walk.at walk.bytes.now)

-- the remaining physical lines
abbrev pub physical_lines_left : PhysicalLines → List PhysicalLine
physical_lines_left walk = physical_lines_at walk.line walk.at walk.bytes.now

-- the remaining parts
abbrev pub parts_left : Parts → List Part
parts_left walk =
    let physical_lines = physical_lines_at walk.line walk.at walk.bytes.now in
    if walk.begun then map (part_after 0) physical_lines else opening_parts walk.bytes.now physical_lines

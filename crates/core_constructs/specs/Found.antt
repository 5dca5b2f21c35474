-- The constructs as the code collects them, each with its lines.
use Rattle.std.specs.Prelude.{ℕ, List, filter, map}
use Rattle.kmn_base.specs.Rising.{is_among}
use Rattle.rule_model.specs.declared.tables.Tables.{Tables}
use Rattle.core_constructs.specs.declared.construct.Construct.{Construct}
use Rattle.core_constructs.specs.declared.construct.Difference.{Difference}
use Rattle.core_constructs.specs.declared.facts.Facts.{Facts}
use Rattle.core_constructs.specs.declared.line_list.ConstructLines.{ConstructLines}
use Rattle.core_constructs.specs.Told.{lines_with}

-- a construct with the lines of the records that have it
abbrev pub found_of : Tables → Facts → List ℕ → Construct → ConstructLines
found_of tables facts spent construct = record { construct = construct; lines = lines_with tables facts spent construct }

abbrev pub found_lines : ConstructLines → List ℕ
found_lines found = found.lines

abbrev pub found_construct : ConstructLines → Construct
found_construct found = found.construct

-- the constructs that have a line
abbrev pub found_at : List ConstructLines → ℕ → List Construct
found_at all line = map found_construct (filter (λ (found : ConstructLines). is_among line found.lines) all)

abbrev pub told_at : List ConstructLines → ℕ → Difference
told_at all line = record { line = line; constructs = found_at all line }

-- How often each line of a record was chosen.
use Rattle.std.specs.Prelude.{◌≡◌, ℕ, ◌+◌, ◌-◌, ◌^◌, min, List, map, flat_map}
use Rattle.kmn_base.specs.Rising.{rising, times}
use Rattle.rule_model.specs.declared.tables.Rule.{Rule}
use Rattle.rule_model.specs.declared.tables.Group.{Group}
use Rattle.rule_model.specs.declared.tables.Tables.{Tables}
use Rattle.rule_trace.specs.declared.coverage.Hit.{Hit}

abbrev pub rule_lines : List Rule → List ℕ
rule_lines rules = map (λ (rule : Rule). rule.line) rules

-- the lines of the records of tables, group by group
abbrev pub record_lines : Tables → List ℕ
record_lines tables = flat_map (λ (group : Group). rule_lines group.rules) tables.groups

-- the lines of the records of tables, each once, in increasing order
unfoldable pub lines_of_tables : Tables → List ℕ
lines_of_tables tables = rising (record_lines tables)

abbrev pub hit_lines : List Hit → List ℕ
hit_lines hits = map (λ (hit : Hit). hit.line) hits

-- there is one hit for each line of a record, in increasing order
abbrev pub AreLinesOf : Tables → List Hit → Type 0
AreLinesOf tables hits = hit_lines hits ≡ lines_of_tables tables

-- the hit of a line that wasn't chosen yet
abbrev pub not_chosen : ℕ → Hit
not_chosen line = record { line = line; count = 0 }

-- the sum of a count and a number, at most the maximum of the count's type
abbrev pub more : ℕ → ℕ → ℕ
more count n = count + min n (2 ^ 32 - 1 - count)

-- a hit with its count increased by one
abbrev pub once_more : Hit → Hit
once_more hit = record hit { count = more hit.count 1 }

-- a hit with its count increased by how often its line occurs in a list
abbrev pub with_times : List ℕ → Hit → Hit
with_times lines hit = record hit { count = more hit.count (times hit.line lines) }

-- hits with each count increased by how often its line occurs in a list
unfoldable pub with_lines : List ℕ → List Hit → List Hit
with_lines lines hits = map (with_times lines) hits

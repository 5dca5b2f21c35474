-- What is found for each record of a keyboard, by lines of the source.
use Rattle.std.specs.Prelude.{ℕ, ◌+◌, List, [], ◌∷◌, ◌++◌, filter_map, slice_get, Option, Some, None, option_map}
use Rattle.kmn_base.specs.Rising.{rising}
use Rattle.rule_model.specs.declared.tables.Rule.{Rule}
use Rattle.rule_model.specs.declared.tables.Group.{Group}
use Rattle.rule_model.specs.declared.tables.Tables.{Tables}
use Rattle.rule_shadow.specs.declared.finding.Found.{Found}
use Rattle.rule_shadow.specs.declared.finding.Found.TheVariants as finding
use Rattle.rule_shadow.specs.Finding.{found}
use Rattle.shadow_text.specs.declared.verdicts.Verdict.{Verdict}

abbrev pub line_of : Rule → ℕ
line_of rule = rule.line

-- the line of the record of a number
abbrev pub line_at : List Rule → ℕ → Option ℕ
line_at rules number = option_map line_of (slice_get rules number)

-- the lines of the records that were found by number; `None` if nothing was found
abbrev pub found_lines : List Rule → Found → Option (List ℕ)
found_lines rules finding.NotFound = None
found_lines rules (finding.ByRule q) = Some (rising (filter_map (line_at rules) (q ∷ [])))
found_lines rules (finding.SplitAt place qs) = Some (rising (filter_map (line_at rules) qs))

-- the line of a record, which has this number in the group of a number, and the lines of the records found for it
abbrev pub verdict_of : Tables → ℕ → List Rule → ℕ → Rule → Verdict
verdict_of tables group rules number rule = record { line = rule.line; by = found_lines rules (found tables group number) }

-- the results for the records of a group from a number on
abbrev pub verdicts_from : Tables → ℕ → List Rule → ℕ → List Rule → List Verdict
verdicts_from tables group all number [] = []
verdicts_from tables group all number (rule ∷ rules) = verdict_of tables group all number rule ∷ verdicts_from tables group all (number + 1) rules

abbrev pub group_verdicts : Tables → ℕ → List Rule → List Verdict
group_verdicts tables group rules = verdicts_from tables group rules 0 rules

-- the results for the records of the groups from a number on
abbrev pub groups_verdicts : Tables → ℕ → List Group → List Verdict
groups_verdicts tables number [] = []
groups_verdicts tables number (group ∷ groups) = group_verdicts tables number group.rules ++ groups_verdicts tables (number + 1) groups

-- the results for all records, group by group
unfoldable pub verdicts : Tables → List Verdict
verdicts tables = groups_verdicts tables 0 tables.groups

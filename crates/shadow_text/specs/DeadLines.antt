-- The rules found to be dead, by their lines, and what `shadow` prints of a keyboard.
use Rattle.std.specs.Prelude.{◌≡◌, ℕ, Bool, is_some, nat_eq, List, [], ◌∷◌, ◌++◌, length, map, filter, flat_map, slice_get, codes, All, Some, unwrap_or}
use Rattle.std.specs.List.{concat, list_all}
use Rattle.std.specs.Fmt.{decimal}
use Rattle.kmn_base.specs.Rising.{rising}
use Rattle.rule_model.specs.declared.program.Program.{Program}
use Rattle.rule_model.specs.declared.program.GroupDef.{GroupDef}
use Rattle.rule_model.specs.declared.tables.Tables.{Tables}
use Rattle.rule_model.specs.Lines.{joined}
use Rattle.kmx_format.specs.Writable.{IsWritable}
use Rattle.compile_laws.specs.WellNamed.{IsWellNamed}
use Rattle.compile_laws.specs.Compiles.{Compiles}
use Rattle.rule_shadow.specs.Laws.{IsDead}
use Rattle.shadow_text.specs.declared.dead_lines.DeadRule.{DeadRule}
use Rattle.shadow_text.specs.declared.verdicts.Verdict.{Verdict}
use Rattle.shadow_text.specs.Verdicts.{verdicts}

abbrev pub line_of : Verdict → ℕ
line_of verdict = verdict.line

abbrev pub is_found : Verdict → Bool
is_found verdict = is_some verdict.by

-- the lines of the records: one for each rule
abbrev pub rule_lines : List Verdict → List ℕ
rule_lines all = rising (map line_of all)

-- the results of a line: those of the records of one rule
abbrev pub of_line : List Verdict → ℕ → List Verdict
of_line all line = filter (λ verdict. nat_eq verdict.line line) all

-- whether something was found for each record of a line
abbrev pub is_dead : List Verdict → ℕ → Bool
is_dead all line = list_all is_found (of_line all line)

-- the lines of the records found for the records of a line
abbrev pub lines_before : List Verdict → ℕ → List ℕ
lines_before all line = rising (flat_map (λ verdict. unwrap_or verdict.by []) (of_line all line))

-- the lines that have something found for each of their records
abbrev pub dead_among : List Verdict → List ℕ
dead_among all = filter (is_dead all) (rule_lines all)

-- the lines of the rules that have something found for each of their records, in increasing order
unfoldable pub dead_lines : Tables → List ℕ
dead_lines tables = dead_among (verdicts tables)

-- a dead rule with the lines found for its records: whenever it would hold, a rule of one of these lines is earlier and holds too
abbrev pub dead_rule : List Verdict → ℕ → DeadRule
dead_rule all line = record { line = line; before = lines_before all line }

-- the rules that have something found for each of their records, in the order of lines
unfoldable pub dead_list : List Verdict → List DeadRule
dead_list all = map (dead_rule all) (dead_among all)

unfoldable pub found_dead : Tables → List DeadRule
found_dead tables = dead_list (verdicts tables)

-- the printed line of a dead rule
abbrev pub dead_line : List Verdict → ℕ → List ℕ
dead_line all line =
    concat (codes "dead " ∷ decimal line ∷ codes " by " ∷ joined (map decimal (lines_before all line)) ∷ codes "\n" ∷ [])

-- the number of rules, and the number of dead rules
abbrev pub end_line : ℕ → ℕ → List ℕ
end_line rules dead = concat (codes "end rules=" ∷ decimal rules ∷ codes " dead=" ∷ decimal dead ∷ codes "\n" ∷ [])

abbrev pub text_of : List Verdict → List ℕ
text_of all = flat_map (dead_line all) (dead_among all) ++ end_line (length (rule_lines all)) (length (dead_among all))

-- what `shadow` prints: a line for each dead rule, and the counts
unfoldable pub dead_text : Tables → List ℕ
dead_text tables = text_of (verdicts tables)

-- the rule in a line of a program is selected in no state and for no press, whichever group it is in
abbrev pub IsDeadLine : Program → ℕ → Type 0
IsDeadLine program line = (n : ℕ) (group : GroupDef) → slice_get program.groups n ≡ Some group → IsDead program group line

-- if compiled tables have a line in `dead_lines`, the rule of the line is dead in their program
abbrev pub DeadLinesAreDead : Type 0
DeadLinesAreDead =
    (program : Program) (tables : Tables) → IsWellNamed program → Compiles program tables → IsWritable tables → All (IsDeadLine program) (dead_lines tables)

abbrev pub rule_line : DeadRule → ℕ
rule_line rule = rule.line

-- the lines of the rules in `found_dead` are `dead_lines`
abbrev pub FoundAreDeadLines : Type 0
FoundAreDeadLines = (tables : Tables) → map rule_line (found_dead tables) ≡ dead_lines tables

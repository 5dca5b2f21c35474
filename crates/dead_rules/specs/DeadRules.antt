-- W07: rules that never take precedence.
use Rattle.std.specs.Prelude.{ℕ, ◌+◌, ◌*◌, nat_eq, nat_lt, Bool, true, false, ◌&&◌, if◌then◌else◌, List, [], ◌∷◌, ◌++◌, length, flat_map}
use Rattle.std.specs.List.{list_any}
use Rattle.kmn_base.specs.declared.limits.TheConstants.{SHADOW_RECORDS}
use Rattle.rule_model.specs.declared.tables.Tables.{Tables}
use Rattle.kmx_format.specs.File.{all_rules}
use Rattle.shadow_text.specs.DeadLines.{found_dead}
use Rattle.shadow_text.specs.declared.dead_lines.DeadRule.{DeadRule}
use Rattle.source_uses.specs.Lines.{in_lines}
use Rattle.name_warnings.specs.declared.warning.Warning.{Warning}
use Rattle.name_warnings.specs.declared.warning.WarningKind.{WarningKind}
use Rattle.name_warnings.specs.declared.warning.WarningKind.TheVariants as kind

-- whether a warning says why its rule never fires: W03, W09, W13 or W14
unfoldable pub explains : WarningKind → Bool
explains (kind.MarkNeverPut mark) = true
explains kind.ContradictoryConditions = true
explains kind.KeyNeverPressed = true
explains (kind.KeysNeverPressed store count keys) = true
explains (kind.PatternWithoutElements store) = true
explains other = false

-- whether a warning says why the rule of a line never fires, and whether one of several does
abbrev pub explains_at : ℕ → Warning → Bool
explains_at line found = nat_eq found.line line && explains found.kind

abbrev pub is_explained : List Warning → ℕ → Bool
is_explained found line = list_any (explains_at line) found

-- the warning at a dead rule, unless one of those found explains it
abbrev pub never_first : DeadRule → Warning
never_first rule = record { line = rule.line; kind = kind.NeverFirst rule.before }

abbrev pub dead_rule_warning : List Warning → DeadRule → List Warning
dead_rule_warning found rule = if is_explained found rule.line then [] else never_first rule ∷ []

abbrev pub unexplained : List Warning → List DeadRule → List Warning
unexplained found rules = flat_map (dead_rule_warning found) rules

-- the note that this many records are too many to search
abbrev pub not_sought : ℕ → Warning
not_sought records = record { line = 1; kind = kind.NeverFirstNotSought records }

-- W07 for tables, in addition to the warnings found: the rules found to be dead, or a note if there are too many records
unfoldable pub dead_warnings : Tables → List Warning → List Warning
dead_warnings tables found =
    if nat_lt SHADOW_RECORDS (length (all_rules tables)) then not_sought (length (all_rules tables)) ∷ []
    else unexplained found (found_dead tables)

-- whether the code of a warning is after W07
unfoldable pub is_later : WarningKind → Bool
is_later (kind.UnusedStore store) = false
is_later (kind.MarkNeverSought mark) = false
is_later (kind.MarkNeverPut mark) = false
is_later (kind.GroupNeverEntered group) = false
is_later (kind.ShorterIndex index elements any any_elements) = false
is_later (kind.RepeatedElement place any index) = false
is_later (kind.NeverFirst lines) = false
is_later (kind.NeverFirstNotSought records) = false
is_later other = true

-- the place of a warning in the order of lines, in which those after W07 are the last of a line
unfoldable pub rank : Warning → ℕ
rank found = if is_later found.kind then 2 * found.line + 1 else 2 * found.line

-- the warnings of a program with W07 of its tables, in the order of lines, and at a line in the order of codes if they had this order
unfoldable pub with_dead_rules : Tables → List Warning → List Warning
with_dead_rules tables found = in_lines rank (found ++ dead_warnings tables found)

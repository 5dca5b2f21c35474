-- A rule that is warned of is dead.
use Rattle.std.proofs.Common.{Bool, true, false, if◌then◌else◌, List, [], ◌∷◌, ◌++◌, map, All, sym, subst}
use Rattle.std.proofs.lemmas.List.Elements.{All-nil, All-cons, All-head, All-tail}
use Rattle.rule_model.specs.declared.program.Program.{Program}
use Rattle.shadow_text.specs.declared.dead_lines.DeadRule.{DeadRule}
use Rattle.shadow_text.specs.DeadLines.{IsDeadLine, found_dead, rule_line}
use Rattle.shadow_text.proofs.DeadRules.{dead_lines_dead}
use Rattle.shadow_text.proofs.FoundDead.{found_are}
use Rattle.name_warnings.specs.declared.warning.Warning.{Warning}
use Rattle.dead_rules.specs.DeadRules.{is_explained, never_first, unexplained}
use Rattle.dead_rules.specs.Laws.{WarnedRulesAreDead, WarnsOfDead}

-- what is true of the lines of dead rules is true of the lines of the warnings at them
warned : (program : Program) (found : List Warning) (rules : List DeadRule) → All (IsDeadLine program) (map rule_line rules) → All (WarnsOfDead program) (unexplained found rules)
warned program found [] dead = All-nil (WarnsOfDead program)
warned program found (rule ∷ rules) dead =
    by (is_explained found rule.line) (warned program found rules (All-tail (IsDeadLine program) rule.line (map rule_line rules) dead))
  where
    by : (explained : Bool) → All (WarnsOfDead program) (unexplained found rules)
        → All (WarnsOfDead program) ((if explained then [] else never_first rule ∷ []) ++ unexplained found rules)
    by true rest = rest
    by false rest =
        All-cons (WarnsOfDead program) (never_first rule) (unexplained found rules)
        (All-head (IsDeadLine program) rule.line (map rule_line rules) dead) rest

pub warned_are_dead : WarnedRulesAreDead
warned_are_dead program tables found named compiled writable =
    warned program found (found_dead tables)
    (subst (All (IsDeadLine program)) (sym (found_are tables)) (dead_lines_dead program tables named compiled writable))

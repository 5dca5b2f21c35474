-- The law of the rules that are warned of.
use Rattle.std.specs.Prelude.{List, All}
use Rattle.rule_model.specs.declared.program.Program.{Program}
use Rattle.rule_model.specs.declared.tables.Tables.{Tables}
use Rattle.kmx_format.specs.Writable.{IsWritable}
use Rattle.compile_laws.specs.WellNamed.{IsWellNamed}
use Rattle.compile_laws.specs.Compiles.{Compiles}
use Rattle.shadow_text.specs.DeadLines.{IsDeadLine, found_dead}
use Rattle.name_warnings.specs.declared.warning.Warning.{Warning}
use Rattle.dead_rules.specs.DeadRules.{unexplained}

-- the rule of a line with a warning is selected in no state and for no press
abbrev pub WarnsOfDead : Program → Warning → Type 0
WarnsOfDead program found = IsDeadLine program found.line

-- if a program compiles to tables, each rule that W07 reports is dead in the program
abbrev pub WarnedRulesAreDead : Type 0
WarnedRulesAreDead =
    (program : Program) (tables : Tables) (found : List Warning) → IsWellNamed program → Compiles program tables → IsWritable tables
    → All (WarnsOfDead program) (unexplained found (found_dead tables))

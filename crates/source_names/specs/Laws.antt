-- The laws of the causes for which names refuse a program.
use Rattle.std.specs.Prelude.{◌≡◌, false, List, [], ◌∷◌, ◌++◌, map}
use Rattle.rule_model.specs.declared.program.Program.{Program}
use Rattle.store_table.specs.First.{first_among}
use Rattle.store_table.specs.Names.{names_refusal}
use Rattle.source_names.specs.declared.causes.NameFault.{NameFault}
use Rattle.source_names.specs.Causes.{name_causes, cause_refusal}
use Rattle.source_names.specs.Telling.{is_lacked, reported_causes, first_refusal}

-- the first of all causes is the first refusal for names: by line, and at a line in the order in which they are checked
abbrev pub FirstCausesAreRefusals : Type 0
FirstCausesAreRefusals = (program : Program) → first_among (map cause_refusal (name_causes program)) ≡ names_refusal program

-- the first of the reported causes is the first refusal for names; there are none if there is no refusal
abbrev pub FirstIsReported : Type 0
FirstIsReported = (program : Program) → first_refusal (reported_causes program) ≡ names_refusal program

-- causes each of which lacks no name that an earlier one lacks
abbrev pub AllNew : List NameFault → List NameFault → Type 0
AllNew before [] = Unit {0}
AllNew before (fault ∷ faults) = (is_lacked before fault.cause ≡ false) × AllNew (before ++ fault ∷ []) faults

-- no name that is not defined is reported twice
abbrev pub ToldOnce : Type 0
ToldOnce = (program : Program) → AllNew [] (reported_causes program)

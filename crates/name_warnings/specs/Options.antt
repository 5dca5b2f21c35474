-- W08, W10 and W12: options that are set and never asked for, or asked for or saved and never set.
use Rattle.std.specs.Prelude.{ℕ, List, ◌++◌}
use Rattle.rule_model.specs.declared.program.Program.{Program}
use Rattle.source_uses.specs.declared.used.Part.TheVariants as part
use Rattle.source_uses.specs.declared.used.Role.{Role}
use Rattle.source_uses.specs.declared.used.Role.TheVariants as role
use Rattle.source_uses.specs.Uses.{names_of, rule_uses}
use Rattle.name_warnings.specs.declared.named.Concern.{Concern}
use Rattle.name_warnings.specs.declared.named.Concern.TheVariants as concern
use Rattle.name_warnings.specs.declared.warning.Warning.{Warning}
use Rattle.name_warnings.specs.Named.{lacking}

-- names that statements use in a role and never in another
abbrev pub never_used : Concern → Role → Role → Program → List (List ℕ) → List Warning
never_used concern other role program aside =
    lacking concern (names_of (rule_uses other part.Whole program) ++ aside) (rule_uses role part.Whole program)

-- W08: options that are set, and that no statement asks for or uses as a store
abbrev pub options_never_asked : Program → List (List ℕ) → List Warning
options_never_asked program aside = never_used concern.OptionNeverAsked role.Read role.Set program aside

-- W10: options that are asked for and never set
abbrev pub options_never_set : Program → List (List ℕ) → List Warning
options_never_set program aside = never_used concern.OptionNeverSet role.Set role.Asked program aside

-- W12: options that are saved and never set
abbrev pub saved_never_set : Program → List (List ℕ) → List Warning
saved_never_set program aside = never_used concern.SavedNeverSet role.Set role.Saved program aside

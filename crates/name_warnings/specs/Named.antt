-- Warnings of names.
use Rattle.std.specs.Prelude.{ℕ, List, map}
use Rattle.source_uses.specs.declared.used.Use.{Use}
use Rattle.source_uses.specs.Uses.{new_uses}
use Rattle.name_warnings.specs.declared.named.Concern.{Concern}
use Rattle.name_warnings.specs.declared.named.Concern.TheVariants as concern
use Rattle.name_warnings.specs.declared.warning.Warning.{Warning}
use Rattle.name_warnings.specs.declared.warning.WarningKind.{WarningKind}
use Rattle.name_warnings.specs.declared.warning.WarningKind.TheVariants as kind

-- what a warning of a name says
abbrev pub kind_of : Concern → List ℕ → WarningKind
kind_of concern.UnusedStore name = kind.UnusedStore name
kind_of concern.MarkNeverSought name = kind.MarkNeverSought name
kind_of concern.MarkNeverPut name = kind.MarkNeverPut name
kind_of concern.GroupNeverEntered name = kind.GroupNeverEntered name
kind_of concern.OptionNeverAsked name = kind.OptionNeverAsked name
kind_of concern.OptionNeverSet name = kind.OptionNeverSet name
kind_of concern.SavedNeverSet name = kind.SavedNeverSet name
kind_of concern.KeyNotLaid name = kind.KeyNotLaid name

-- the warning at the use of a name
abbrev pub warned : Concern → Use → Warning
warned concern found = record { line = found.line; kind = kind_of concern found.name }

-- a warning at the first use of each name that is not known
abbrev pub lacking : Concern → List (List ℕ) → List Use → List Warning
lacking concern known uses = map (warned concern) (new_uses known uses)

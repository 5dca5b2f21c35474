-- W17: custom keys of rules that a touch layout lacks.
use Rattle.std.specs.Prelude.{ℕ, List}
use Rattle.rule_model.specs.declared.program.Program.{Program}
use Rattle.source_uses.specs.declared.used.Part.TheVariants as part
use Rattle.source_uses.specs.declared.used.Role.TheVariants as role
use Rattle.source_uses.specs.Uses.{rule_uses}
use Rattle.name_warnings.specs.declared.named.Concern.TheVariants as concern
use Rattle.name_warnings.specs.declared.warning.Warning.{Warning}
use Rattle.name_warnings.specs.Named.{lacking}

-- a warning at the first rule with each custom key that is not among the ids of the keys of a touch layout
abbrev pub keys_not_laid : Program → List (List ℕ) → List Warning
keys_not_laid program ids = lacking concern.KeyNotLaid ids (rule_uses role.OwnKey part.Key program)
